-- Kilos: weights from -1,000,000 to 1,000,000, any bound of 32 bits, sums that stop at the ends of 32 bits.
use Rattle.std.specs.Prelude.{Bool, true, ◌&&◌, ℤ, pos, negsuc, ◌+ℤ◌, int_le}
use Rattle.std.specs.Int.{saturate_to_bits}
use Rattle.measures.specs.Scales.{Scale}
use Rattle.measures.specs.declared.kilo.Kilo.{Kilo}

abbrev pub kilo : ℤ → Kilo
kilo n = record { value = n }

abbrev pub no_kilo : Kilo
no_kilo = kilo (pos 0)

abbrev pub kilo_ok : ℤ → Bool
kilo_ok w = int_le (negsuc 999999) w && int_le w (pos 1000000)

abbrev pub kilo_fair : ℤ → Bool
kilo_fair b = true

abbrev pub kilo_lay : Kilo → ℤ → Kilo
kilo_lay t w = kilo (saturate_to_bits 31 (t.value +ℤ w))

abbrev pub kilo_le : Kilo → Kilo → Bool
kilo_le s t = int_le s.value t.value

abbrev pub kilos : Scale ℤ Kilo
kilos = record { ok = kilo_ok; fair = kilo_fair; bound = kilo; nothing = no_kilo; lay = kilo_lay; le = kilo_le }
