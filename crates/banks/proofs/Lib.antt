pub mod PastCount
