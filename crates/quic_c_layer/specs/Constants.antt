-- The constants of a version by numbers (RFC 9001, sections 5.1, 5.2, 5.8 and 6.1; RFC 9369, section 3.3).
use Rattle.std.specs.Prelude.{ℕ, List, Option, None, Some, ◌==◌, if◌then◌else◌}
use Rattle.quic_tls.specs.Constants.{Constants, constants_of}

-- the salt, the key and the nonce of a Retry's tag, then the labels
abbrev pub numbered : ℕ → Constants → Option (List ℕ)
numbered which c =
    if which == 0 then Some c.initial_salt
    else if which == 1 then Some c.retry_key
    else if which == 2 then Some c.retry_nonce
    else if which == 3 then Some c.key_label
    else if which == 4 then Some c.iv_label
    else if which == 5 then Some c.hp_label
    else if which == 6 then Some c.ku_label
    else None

abbrev pub numbered_in : ℕ → Option Constants → Option (List ℕ)
numbered_in which None = None
numbered_in which (Some c) = numbered which c

abbrev pub constant_in : ℕ → ℕ → Option (List ℕ)
constant_in version which = numbered_in which (constants_of version)
