-- An id in memory: its length, its bytes side by side, and the rest of its array; and the other way round.
use mathlib.Core.Path.{◌≡◌, refl, sym}
use Prim.Native.Nat.{ℕ, zero, ◌+◌}
use mathlib.Core.List.{List, [], ◌∷◌}
use lib.ListN.{length}
use seplogic.Ra.Ura.{Ura}
use mir.Syntax.{Ty, ty_array, ty_int, ty_struct, w8, w32}
use mir.Val.{vint}
use base.Logic.{SProp, ent, sep, guard}
use base.Fraction.{full_share}
use base.Fml.{Fml, ftrue, fsep, feq, fat}
use prog.Memory.{align, up, size}
use types.Logic.{Logic, sem}
use types.SemTy.{cells}
use types.Kit.{‵, ◌⊛◌, raw, ◌$◌, ◌∵◌, !, qed, move, drop, split, fsplit, fjoin, use1, use2, done, rewrite, feq_l, feq_i, check}
use denote.Array.{Array}
use denote.ArrayMemory.{Array-apart, Array-whole}
use denote.Builtin.{u8, u32}
use denote.Index.{row, whole_in, whole_out}
use denote.Memory.{mem, part_at}
use denote.Param.Laws.{Laws, of_field, array_laws}
use denote.Param.Shared.{copy_shared}
use denote.Plain.{uint_out, uint_in}
use denote.RattleType.{RattleType}
use denote.Steps.{nothing}
use denote.Struct.Declared.{shape}
use denote.Struct.Field.{u8-field, u32-field}
use denote.Struct.Laws.{u8-laws, u8-copy, u32-laws, u32-copy}
use denote.Struct.Members.{Member, raw_tys}
use denote.Struct.Parts.{shape_of, Struct-left, left_Struct}
use denote.Struct.Recorded.{Recorded-part}
use denote.Struct.Struct.{Struct}
use Rattle.quic_base.specs.contracts.ids.connection_id.ConnectionId.TheInside.{the_row, the_type}

abbrev pub array_ty : Ty
array_ty = ty_array (ty_int w8) 20

abbrev pub fields : List Member
fields = record { row = u32; ty = ty_int w32 } ∷ record { row = Array u8 20; ty = array_ty } ∷ []

abbrev pub Tuple : RattleType
Tuple = Struct (shape_of the_type.name fields)

-- where the length and the array are, in an id at the offset o
abbrev pub len_at : ℕ → ℕ
len_at o = o + up (align (ty_int w32)) zero

abbrev pub bytes_at : ℕ → ℕ
bytes_at o = o + up (align array_ty) (up (align (ty_int w32)) zero + size (ty_int w32))

byte_laws : Laws u8
byte_laws = of_field u8-field u8-laws refl (copy_shared u8-field u8-copy)

len_laws : Laws u32
len_laws = of_field u32-field u32-laws refl (copy_shared u32-field u32-copy)

as_tuple : (v : the_row.Denot) (b o : ℕ)
    → part_at the_row full_share v b o ≡ part_at Tuple full_share (v.len, (v.bytes, tt)) b o
as_tuple v b o = Recorded-part (Struct (shape the_type)) the_type.D the_type.to the_type.to_one full_share v b o

module _ {M : Type 1} {𝓤 : Ura M} (𝓛 : Logic 𝓤) (b o : ℕ) where
  open 𝓛 use {H}

  abbrev pub Left : SProp 𝓤
  Left = H.left full_share (ty_struct [] (raw_tys fields)) (raw_tys fields) b o

  pub fields_out : (v : the_row.Denot) → ent 𝓤 (sem 𝓛 (part_at the_row full_share v b o))
      (guard 𝓤 (length v.bytes ≡ 20) (sep 𝓤 (sem 𝓛 (cells (mem u8) v.bytes b (bytes_at o)))
      (sep 𝓤 (sem 𝓛 (fat full_share (ty_int w32) b (len_at o) (vint w32 v.len))) Left)))
  fields_out v =
      let lone = len_laws.single in
      let lones = (array_laws u8 byte_laws 20).single in
      qed 𝓛 (‵ (part_at the_row full_share v b o) ∷ []) ∵
      rewrite ! 0 (λ (f : Fml). ‵ f) (as_tuple v b o) refl $
      use1 𝓛 (‵ (fsep (part_at u32 full_share v.len b (len_at o))
      (fsep (part_at (Array u8 20) full_share v.bytes b (bytes_at o)) ftrue)) ⊛ raw Left)
      (Struct-left 𝓛 full_share the_type.name fields (lone, (lones, tt)) (v.len, (v.bytes, tt)) b o) $
      split ! $ fsplit ! $
      use1 𝓛 (‵ (fat full_share (ty_int w32) b (len_at o) (vint w32 v.len))) (uint_out 𝓛 full_share w32 v.len b (len_at o)) $
      move ! (1 ∷ []) $ fsplit ! $ move ! (1 ∷ []) $ drop ! $
      use1 𝓛 (‵ (fsep (feq ℕ (length v.bytes) 20) (row u8 full_share v.bytes b (bytes_at o))))
      (Array-apart 𝓛 u8 full_share tt 20 v.bytes b (bytes_at o)) $ fsplit ! $ feq_l ! (λ long.
      use1 𝓛 (‵ (cells (mem u8) v.bytes b (bytes_at o))) (whole_in 𝓛 u8 v.bytes b (bytes_at o)) $
      check ! long $ done !)

  pub fields_in : (v : the_row.Denot) → length v.bytes ≡ 20
      → ent 𝓤 (sep 𝓤 (sem 𝓛 (cells (mem u8) v.bytes b (bytes_at o)))
      (sep 𝓤 (sem 𝓛 (fat full_share (ty_int w32) b (len_at o) (vint w32 v.len))) Left))
      (sem 𝓛 (part_at the_row full_share v b o))
  fields_in v long =
      qed 𝓛 (‵ (cells (mem u8) v.bytes b (bytes_at o)) ∷ (‵ (fat full_share (ty_int w32) b (len_at o) (vint w32 v.len)) ⊛ raw Left) ∷ []) ∵
      use1 𝓛 (‵ (row u8 full_share v.bytes b (bytes_at o))) (whole_out 𝓛 u8 v.bytes b (bytes_at o)) $
      feq_i ! ℕ (length v.bytes) 20 long $ fjoin ! $
      use1 𝓛 (‵ (part_at (Array u8 20) full_share v.bytes b (bytes_at o)))
      (Array-whole 𝓛 u8 full_share 20 v.bytes b (bytes_at o)) $
      nothing ! $ move ! (1 ∷ 0 ∷ []) $ fjoin ! $ move ! (1 ∷ []) $ split ! $
      use1 𝓛 (‵ (part_at u32 full_share v.len b (len_at o))) (uint_in 𝓛 full_share w32 v.len b (len_at o)) $
      move ! (0 ∷ 2 ∷ []) $ fjoin ! $
      use2 𝓛 (‵ (part_at Tuple full_share (v.len, (v.bytes, tt)) b o))
      (left_Struct 𝓛 full_share the_type.name fields (v.len, (v.bytes, tt)) b o) $
      rewrite ! 0 (λ (f : Fml). ‵ f) (sym (as_tuple v b o)) refl $ done !
