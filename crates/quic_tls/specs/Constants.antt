-- The constants of a version: of version 1 (RFC 9001, sections 5.1, 5.2, 5.8 and 6.1), and of version 2 (RFC 9369,
-- section 3.3).
use Rattle.std.specs.Prelude.{ℕ, List, [], ◌∷◌, Option, None, Some, codes, ◌==◌, if◌then◌else◌}

pub record Constants : Type 0 where
  pub initial_salt : List ℕ
  pub retry_key : List ℕ
  pub retry_nonce : List ℕ
  pub key_label : List ℕ
  pub iv_label : List ℕ
  pub hp_label : List ℕ
  pub ku_label : List ℕ

abbrev pub initial_salt_1 : List ℕ
initial_salt_1 =
    0x38 ∷ 0x76 ∷ 0x2c ∷ 0xf7 ∷ 0xf5 ∷ 0x59 ∷ 0x34 ∷ 0xb3 ∷ 0x4d ∷ 0x17 ∷ 0x9a ∷ 0xe6 ∷ 0xa4 ∷ 0xc8 ∷ 0x0c
    ∷ 0xad ∷ 0xcc ∷ 0xbb ∷ 0x7f ∷ 0x0a ∷ []

abbrev pub retry_key_1 : List ℕ
retry_key_1 =
    0xbe ∷ 0x0c ∷ 0x69 ∷ 0x0b ∷ 0x9f ∷ 0x66 ∷ 0x57 ∷ 0x5a ∷ 0x1d ∷ 0x76 ∷ 0x6b ∷ 0x54 ∷ 0xe3 ∷ 0x68 ∷ 0xc8
    ∷ 0x4e ∷ []

abbrev pub retry_nonce_1 : List ℕ
retry_nonce_1 =
    0x46 ∷ 0x15 ∷ 0x99 ∷ 0xd3 ∷ 0x5d ∷ 0x63 ∷ 0x2b ∷ 0xf2 ∷ 0x23 ∷ 0x98 ∷ 0x25 ∷ 0xbb ∷ []

abbrev pub initial_salt_2 : List ℕ
initial_salt_2 =
    0x0d ∷ 0xed ∷ 0xe3 ∷ 0xde ∷ 0xf7 ∷ 0x00 ∷ 0xa6 ∷ 0xdb ∷ 0x81 ∷ 0x93 ∷ 0x81 ∷ 0xbe ∷ 0x6e ∷ 0x26 ∷ 0x9d
    ∷ 0xcb ∷ 0xf9 ∷ 0xbd ∷ 0x2e ∷ 0xd9 ∷ []

abbrev pub retry_key_2 : List ℕ
retry_key_2 =
    0x8f ∷ 0xb4 ∷ 0xb0 ∷ 0x1b ∷ 0x56 ∷ 0xac ∷ 0x48 ∷ 0xe2 ∷ 0x60 ∷ 0xfb ∷ 0xcb ∷ 0xce ∷ 0xad ∷ 0x7c ∷ 0xcc
    ∷ 0x92 ∷ []

abbrev pub retry_nonce_2 : List ℕ
retry_nonce_2 =
    0xd8 ∷ 0x69 ∷ 0x69 ∷ 0xbc ∷ 0x2d ∷ 0x7c ∷ 0x6d ∷ 0x99 ∷ 0x90 ∷ 0xef ∷ 0xb0 ∷ 0x4a ∷ []

-- the labels with which TLS derives keys, ivs, keys for header protection, and further secrets
abbrev pub constants_1 : Constants
constants_1 = record {
  initial_salt = initial_salt_1;
  retry_key = retry_key_1;
  retry_nonce = retry_nonce_1;
  key_label = codes "quic key";
  iv_label = codes "quic iv";
  hp_label = codes "quic hp";
  ku_label = codes "quic ku";
}

abbrev pub constants_2 : Constants
constants_2 = record {
  initial_salt = initial_salt_2;
  retry_key = retry_key_2;
  retry_nonce = retry_nonce_2;
  key_label = codes "quicv2 key";
  iv_label = codes "quicv2 iv";
  hp_label = codes "quicv2 hp";
  ku_label = codes "quicv2 ku";
}

abbrev pub constants_of : ℕ → Option Constants
constants_of version =
    if version == 1 then Some constants_1 else if version == 0x6b3343cf then Some constants_2 else None
