-- Numbers of whole bytes that stand one after another, the highest byte first. This project's own profile.
use Rattle.std.specs.Prelude.{ℕ, ◌+◌, ◌*◌, ◌/◌, ℤ, pos, Bool, ◌||◌, ◌==◌, if◌then◌else◌, List, ◌++◌, take, drop}
use Rattle.std.specs.Int.{w64, bytes_high_first, cast_unsigned}
use Rattle.byteorder.specs.Endian.{twos_complement}
use Rattle.corr_model.specs.Packets.{big}

-- 8, 16, 32 or 64 bits
abbrev pub is_width : ℕ → Bool
is_width bits = (bits == 8) || (bits == 16) || (bits == 32) || (bits == 64)

-- the bytes of the number at a place, so many bytes a number
abbrev pub number_bytes : ℕ → ℕ → List ℕ → List ℕ
number_bytes width place bytes = take width (drop (place * width) bytes)

-- so many bytes as a number, in two's complement where it is signed
abbrev pub value_of : Bool → ℕ → List ℕ → ℤ
value_of signed width bytes = if signed then twos_complement width (big bytes) else pos (big bytes)

-- the number at a place among numbers of so many bits
abbrev pub number_at : List ℕ → ℕ → Bool → ℕ → ℤ
number_at bytes bits signed place = value_of signed (bits / 8) (number_bytes (bits / 8) place bytes)

-- the bytes with this number, in two's complement, at a place among numbers of so many bits
abbrev pub with_number : List ℕ → ℕ → ℕ → ℤ → List ℕ
with_number bytes bits place value =
    let width = bits / 8 in
    take (place * width) bytes
    ++ (bytes_high_first width (cast_unsigned w64 value) ++ drop (place * width + width) bytes)
