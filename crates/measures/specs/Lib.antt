pub mod Scales
pub mod Kilos
pub mod Grades
pub mod GradeLaws
pub mod KiloLaws
