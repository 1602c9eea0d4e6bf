-- `as_mut_slice` lends the bytes of an id as a slice. The borrow checker shows no write-back clause for
-- a part of an array behind a model, so this proof walks the code by hand.
use mathlib.Core.Path.{◌≡◌, refl, sym, ap, ◌∙◌}
use Prim.Native.Nat.{ℕ, ◌≤◌}
use native.Mathlib.Omega.{arith}
use mathlib.Core.List.{List, [], ◌∷◌, ◌++◌}
use seplogic.Ra.Ura.{Ura}
use mir.Syntax.{named, w32, ty_int}
use mir.Val.{Val, vptr, vint}
use base.Logic.{SProp, ent, sep, emp, via, fst∗, ex_i}
use base.Fml.{Fml, Lft, GName, Share, ftrue, flft, fat}
use base.Fraction.{full_share}
use prog.Memory.{Memory}
use prog.Routine.{Routine}
use prog.Wp.{Calls, Loops, WpFn, Tables}
use types.Logic.{Logic, sem}
use types.Mut.{open_ref}
use contract.Monad.{Fun}
use contract.Running.{tables, tables_of}
use sound.WpLaws.{WpFn-mono}
use types.Kit.{Item, ‵, ◌⊛◌, raw, given, some, later, ◌$◌, ◌∵◌, !, qed, by, move, keep, drop, split, split3, join, learn, fsplit, fsplit3, fjoin, use1, use2, await, pick, suffices, frame, done, group, rewrite}
use denote.Array.{Array}
use denote.Builtin.{RefMutOf, u8}
use denote.Exit.{no}
use denote.Follow.{follows}
use denote.FollowSlice.{lends_Elements}
use denote.Memory.{mem, part_at}
use denote.Model.Fields.{plain_out, Plain-in}
use denote.RattleType.{owns}
use denote.Ref.{MutBor, MutRef, mut_vals, mut_Tells}
use denote.Signature.{plain}
use denote.Slice.{MutSlice, Room, slice_val}
use denote.Steps.{nothing}
use denote.Triple.Clauses.{Clauses, closing}
use denote.Triple.Entry.{on_entry}
use denote.Triple.Spec.{Meets, triple_of}
use denote.Triple.Table.{entered}
use denote.Triple.Walked.{says, Stays, stay_dropped, walk_of, ends_at, walked, Goes-spent_ref, walk_Meets}
use lib.ListN.{length, take, drop as drop_list, take-append-drop, length-drop, length-append}
use lib.Seq.{take_at as take_front}
use types.SemTy.{cells}
use types.Part.{agg}
use types.Run.{stop, fld, addr, load, look, un, of_opd, and_then, no_more, returns, enter}
use types.ByLocal.{alloc_all, pass_all, free_all, look_at, get, through, sets}
use borrow.Table.Elements.{at, cut_app, join_app, length-take-le}
use Rattle.std.proofs.Math.Seq.{drop-append_seam}
use Rattle.std.specs.List.{refill}
use Rattle.quic_base.specs.ConnectionId.{IsPadded}
use Rattle.quic_base.specs.contracts.ids.connection_id.ConnectionId.{the_row as Id}
use Rattle.quic_base.specs.contracts.ids.connection_id.ConnectionId.TheInside.{the_row as Inside}
use Rattle.quic_base.specs.contracts.ids.connection_id.ConnectionId.as_mut_slice as F
use Rattle.quic_base.specs.contracts.ids.connection_id.ConnectionId.as_mut_slice.Key.{name as #self}
use Rattle.quic_base.proofs.ids.connection_id.ConnectionId.TheLaws.{the_opens}
use Rattle.quic_base.proofs.IdMemory.{Left, bytes_at, len_at, fields_out, fields_in}
use Rattle.quic_base.proofs.ids.connection_id.ConnectionId.as_mut_slice.Statement as stated
use Rattle.quic_base.proofs.ids.connection_id.ConnectionId.as_mut_slice.Code as code

abbrev stayed : Stays F.ended.signature.params F.ended.kept
stayed = (stay_dropped (RefMutOf (0 ∷ []) tt (plain (λ _. Id)) (λ _. tt)) no, tt)

-- what the id becomes once ws was written
abbrev after : List ℕ → List ℕ → List ℕ
after d ws = refill (length d) d ws

-- the fields of an id d
abbrev Fields : List ℕ → Type 0
Fields d = (a : Inside.Denot) × ((take a.len a.bytes ≡ d) × IsPadded a.len a.bytes)

module _ {M : Type 1} {𝓤 : Ura M} (𝓛 : Logic 𝓤) (κ : Lft) (q : Share) (b o : ℕ) (γ : GName) (d : List ℕ) where
  open 𝓛 use {H, A}

  abbrev p : ℕ
  p = bytes_at o

  module _ (f : Fields d) where
    abbrev a : Inside.Denot
    a = f.0

    abbrev front : List ℕ
    front = take a.len a.bytes

    abbrev back : List ℕ
    back = drop_list a.len a.bytes

    abbrev elements : List ℕ → ℕ → Fml
    elements ws = cells (mem u8) ws b

    abbrev past : ℕ → ℕ
    past = at p (mem u8).size

    abbrev Length : Fml
    Length = fat full_share (ty_int w32) b (len_at o) (vint w32 a.len)

    abbrev Rest : SProp 𝓤
    Rest = sep 𝓤 (sem 𝓛 (elements back (past (length front)))) (sep 𝓤 (sem 𝓛 Length) (Left 𝓛 b o))

    put : length a.bytes ≡ 20 → (ws : List ℕ) → length ws ≡ length front
        → ent 𝓤 (sep 𝓤 (sem 𝓛 (elements ws p)) Rest) (sem 𝓛 ((mem Id).own_at (after d ws) b o))
    put long ws e =
        let short : a.len ≤ 20 = f.1.1.short in
        let count : length front ≡ a.len = length-take-le a.len a.bytes (omega arith) in
        let count_ws : length ws ≡ a.len = e ∙ count in
        let both = length-append ws back in
        let rest = length-drop a.len a.bytes in
        let a' : Inside.Denot = record { len = a.len; bytes = ws ++ back } in
        let whole : length (ws ++ back) ≡ 20 = omega arith in
        let filled : after d ws ≡ ws = take_front ws (drop_list (length ws) d) (length d) (e ∙ ap length f.1.0) in
        let seen : take a.len (ws ++ back) ≡ after d ws = take_front ws back a.len count_ws ∙ sym filled in
        let zeros = ap (λ k. drop_list k (ws ++ back)) (sym count_ws) ∙ drop-append_seam ws back ∙ f.1.1.zeros in
        let padded : IsPadded a.len (ws ++ back) = record { short = short; width = whole; zeros = zeros } in
        let made : ent 𝓤 (emp 𝓤) (sem 𝓛 (the_opens.rest (after d ws) a')) =
        ex_i 𝓤 (λ (_ : (take a.len (ws ++ back) ≡ after d ws) × IsPadded a.len (ws ++ back)). emp 𝓤) (seen, padded) in
        qed 𝓛 (‵ (elements ws p) ∷ (‵ (elements back (past (length front))) ⊛ (‵ Length ⊛ raw (Left 𝓛 b o))) ∷ []) ∵
        move ! (1 ∷ []) $ split ! $ move ! (2 ∷ 0 ∷ []) $
        rewrite ! 1 (λ (k : ℕ). ‵ (elements back (past k))) (sym e) refl $
        use2 𝓛 (‵ (elements (ws ++ back) p)) (join_app 𝓛 (mem u8) ws back b p) $
        use2 𝓛 (‵ (part_at Inside full_share a' b o)) (fields_in 𝓛 b o a' whole) $
        by ! (Plain-in Id Inside the_opens 𝓛 full_share (after d ws) a' made b o)

  abbrev Lent : List ℕ → ℕ → GName → SProp 𝓤
  Lent xs k δ = sep 𝓤 (sem 𝓛 ((MutSlice (named 0) κ u8).own_val (record { ref_ptr = (b, p); ghost_name = δ; now = xs })
      (slice_val (b, p) k ∷ []))) (sep 𝓤 (A.lft κ q) (sem 𝓛 (follows Id (Array u8 0) γ δ (after d))))

  abbrev lent : List ℕ → ℕ → GName → Item 𝓤
  lent xs k δ = ‵ ((MutSlice (named 0) κ u8).own_val (record { ref_ptr = (b, p); ghost_name = δ; now = xs })
      (slice_val (b, p) k ∷ [])) ⊛ ‵ (flft κ q) ⊛ ‵ (follows Id (Array u8 0) γ δ (after d))

  module _ (at_mem : Memory → SProp 𝓤) (run : Routine → Fun 𝓤) where
    abbrev clauses : Clauses 𝓤 F.ended
    clauses = F.clauses 𝓛 at_mem run

    abbrev self : MutBor (List ℕ)
    self = record { ref_ptr = (b, o); ghost_name = γ; now = d }

    abbrev bound : (walk_of 𝓛 F.ended stayed clauses).Ghost
    bound = (((κ, tt), (q, tt), tt, (self, tt), (vptr b o ∷ [], tt)), tt)

    abbrev Post : Val → SProp 𝓤
    Post = (walk_of 𝓛 F.ended stayed clauses).post bound

    exits : (f : Fields d) (δ : GName)
        → ent 𝓤 (Lent (take f.0.len f.0.bytes) f.0.len δ) (Post (slice_val (b, p) f.0.len))
    exits f δ =
        let xs = take f.0.len f.0.bytes in
        qed 𝓛 (‵ ((MutSlice (named 0) κ u8).own_val (record { ref_ptr = (b, p); ghost_name = δ; now = xs })
        (slice_val (b, p) f.0.len ∷ [])) ∷ ‵ (flft κ q) ∷ ‵ (follows Id (Array u8 0) γ δ (after d)) ∷ []) ∵
        suffices ! _ (ends_at 𝓛 F.ended stayed clauses bound (slice_val (b, p) f.0.len)
        (record { ref_ptr = (b, p); ghost_name = δ; now = xs }) (tt, tt) (tt, tt)) $
        nothing ! $ nothing ! $ fjoin ! $ join ! $ nothing ! $ move ! (2 ∷ 0 ∷ []) $ join ! $ join ! $ frame ! $ says ! f.1.0 $ done !

    module _ (C : Calls 𝓤 H) (Λ : Loops 𝓤 H) where
      walk : ent 𝓤 (on_entry 𝓛 F.ended.signature (κ, tt) (q, tt) (self, tt) (vptr b o ∷ [], tt))
          (WpFn 𝓤 H C Λ code.function (vptr b o ∷ []) Post)
      walk =
          qed 𝓛 ((‵ (flft κ q) ⊛ ‵ ftrue) ∷ ‵ (owns (MutRef (named 0) κ Id ∷ []) (self, tt) (vptr b o ∷ [], tt)) ∷ []) ∵
          enter ! C Λ code.function (vptr b o ∷ []) _ $
          alloc_all ! (λ l. pass_all ! refl ((tt, tt), tt) $
          move ! (1 ∷ []) $ fsplit ! $ fsplit3 ! $ drop ! $ move ! (3 ∷ []) $ split ! $ move ! (2 ∷ 3 ∷ 0 ∷ []) $
          open_ref ! tt (mem Id) {b = b} {o = o} $
          use1 𝓛 (some (λ (f : Fields d). ‵ (part_at Inside full_share f.0 b o)))
          (plain_out Id Inside the_opens 𝓛 full_share d b o) $ pick ! (λ f.
          let a : Inside.Denot = f.0 in
          let short : a.len ≤ 20 = f.1.1.short in
          let xs : List ℕ = take a.len a.bytes in
          let front_at : Fml = cells (mem u8) xs b p in
          use1 𝓛 (given (length a.bytes ≡ 20) (‵ (cells (mem u8) a.bytes b p)
          ⊛ (‵ (fat full_share (ty_int w32) b (len_at o) (vint w32 a.len)) ⊛ raw (Left 𝓛 b o))))
          (fields_out 𝓛 b o a) $
          learn ! (λ long. split3 ! $
          let count : length xs ≡ a.len = length-take-le a.len a.bytes (omega arith) in
          let room : Room u8 (length xs) = (omega arith, omega arith) in
          sets ! (of_opd ! (load ! (through ! refl (fld ! refl (stop !))) (look ! 1 refl))) refl (tt, record { fits = omega arith }) $
          sets ! (un ! (get ! refl) (record { fits = omega arith })) refl (tt, record { fits = omega arith }) $
          sets ! (addr ! (through ! refl (fld ! refl (stop !)))) refl (tt, tt) $
          sets ! (agg ! (and_then ! (get ! refl) (and_then ! (get ! refl) (no_more !)))) refl
          (tt, (tt, (record { fits = omega arith }, tt))) $
          rewrite ! 0 (λ (ys : List ℕ). ‵ (cells (mem u8) ys b p)) (sym (take-append-drop a.len a.bytes)) refl $
          use1 𝓛 (‵ front_at ⊛ ‵ (cells (mem u8) (drop_list a.len a.bytes) b (at p (mem u8).size (length xs))))
          (cut_app 𝓛 (mem u8) xs (drop_list a.len a.bytes) b p) $
          split ! $ move ! (2 ∷ 3 ∷ []) $ join ! $ move ! (2 ∷ 0 ∷ []) $ join ! $ move ! (2 ∷ 3 ∷ 4 ∷ 1 ∷ 0 ∷ []) $ group ! 5 $
          use1 𝓛 (later (some (lent xs (length xs))))
          (lends_Elements 𝓛 Id u8 (after d) (named 0) κ q b o b p γ xs room (Rest f) (put f long) (Id.coded.code d) (Id.coded.code d)) $
          await ! tt $ pick ! (λ δ. rewrite ! 0 (λ (k : ℕ). lent xs k δ) count refl $
          returns ! (look_at ! 0 refl) $ free_all ! refl $ keep ! (0 ∷ []) $
          by ! (exits f δ)))))

meets : {M : Type 1} {𝓤 : Ura M} (𝓛 : Logic 𝓤) (at_mem : Memory → SProp 𝓤) (run : Routine → Fun 𝓤) (𝓣 : Tables 𝓤 𝓛.H)
    → Meets 𝓛 F.ended.signature (WpFn 𝓤 𝓛.H 𝓣.C 𝓣.Λ code.function) (closing 𝓛 F.ended (F.clauses 𝓛 at_mem run))
meets {𝓤 = 𝓤} 𝓛 at_mem run 𝓣 =
    walk_Meets 𝓛 F.ended stayed (Goes-spent_ref 𝓛 1 (0 ∷ []) tt (plain (λ _. Id)), tt) (F.clauses 𝓛 at_mem run)
    (WpFn 𝓤 𝓛.H 𝓣.C 𝓣.Λ code.function) (WpFn-mono 𝓤 𝓛.H 𝓛.laws 𝓣 code.function)
    (walked 𝓛 F.ended stayed (F.clauses 𝓛 at_mem run) (WpFn 𝓤 𝓛.H 𝓣.C 𝓣.Λ code.function) (λ κs. (mut_vals, tt))
    (λ κs. (mut_Tells (named 0) κs.0 Id, tt))
    (λ κs qs bounds a g are. via 𝓤 _ (fst∗ 𝓤 _ (emp 𝓤)) (walk 𝓛 κs.0 qs.0 a.0.ref_ptr.0 a.0.ref_ptr.1 a.0.ghost_name
    a.0.now at_mem run 𝓣.C 𝓣.Λ)))

pub as_mut_slice_spec : {M : Type 1} → stated.statement M
unfolding tables_of
as_mut_slice_spec 𝓤 𝓛 𝓜 𝓡 wired =
    let 𝓣 : Tables 𝓤 𝓛.H = tables_of 𝓤 𝓛.H 𝓜 (tables 𝓤 𝓛.H 𝓜 𝓡 𝓡.env) in
    entered 𝓤 𝓛.H (triple_of 𝓛 F.ended.signature (F.spec 𝓛 𝓜.mem 𝓡.returns)) 𝓣.C 𝓣.Λ #self code.function (code.unfolded 𝓤 𝓛.H 𝓜 𝓡 wired)
    (meets 𝓛 𝓜.mem 𝓡.returns 𝓣)
