-- Keys that protect nothing, so that what is sealed with them can be read.
use Rattle.std.specs.Prelude.{ℕ, ◌-◌, List, ◌++◌, length, take, drop, nat_le, nat_eq, replicate, Option, Some, None, if◌then◌else◌, ◌&&◌}
use Rattle.std.specs.Cmp.Lexicographic.{pointwise}
use Rattle.quic_base.specs.Number.{bytes_of}

-- the number in eight bytes, then eight zeros
abbrev pub toy_tag : ℕ → List ℕ
toy_tag number = bytes_of 8 number ++ replicate 8 0

-- the payload, and after it the tag
abbrev pub toy_seal : ℕ → List ℕ → List ℕ
toy_seal number payload = payload ++ toy_tag number

-- the bytes before the last sixteen, if those are the number's tag
abbrev pub toy_open : ℕ → List ℕ → Option (List ℕ)
toy_open number sealed =
    let at = length sealed - 16 in
    if nat_le 16 (length sealed) && pointwise nat_eq (drop at sealed) (toy_tag number) then Some (take at sealed)
    else None
