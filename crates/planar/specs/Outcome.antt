-- What an import answers, and what its two buffers hold afterwards.
use Rattle.std.specs.Prelude.{ℕ, ◌<◌, ◌≤◌, ◌≡◌, refl, Bool, true, false, List, length, ltb, if◌then◌else◌, Result as Outcome, Ok, Err}
use Rattle.std.proofs.Common.{sym, subst, lt-ltb, le-ltb}
use Rattle.rules.specs.declared.Refused.{Refused}
use Rattle.rules.specs.Refusals.{Result, good, refused, refusal_at, told}
use Rattle.rules.specs.Output.{filled}
use Rattle.answers.specs.declared.Sizes.{Sizes}
use Rattle.answers.specs.declared.NotImported.{NotImported}
use Rattle.answers.specs.Told.{told_imported}
use Rattle.words.specs.Writing.{Stored, stored-filled}
use Rattle.planar_rules.specs.PlanarCode.{Import, imported, room_for_both, order_of, list_of, sizes_of}

abbrev pub Imported : Type 0
Imported = Outcome Sizes NotImported

-- the answer for what the rules give, with buffers of these lengths
abbrev pub imported_for : ℕ → ℕ → Result Import → Imported
imported_for order list (refused r p) = Err (NotImported.Refused (refusal_at r p))
imported_for order list (good i) =
    if ltb order (length i.order) then Err NotImported.OrderShort
    else if ltb list (length i.list) then Err NotImported.ListShort
    else Ok (record { order = length i.order; list = length i.list })

-- `wanted` was to be written into the two buffers: a refusal changes no byte of either, and bytes past the written ones stay
pub record Fills (wanted : Result Import) (order list order' list' : List ℕ) (r : Imported) : Type 0 where
  pub answer : r ≡ imported_for (length order) (length list) wanted
  pub orders : order' ≡ filled order (order_of (room_for_both (length order) (length list) wanted))
  pub lists : list' ≡ filled list (list_of (room_for_both (length order) (length list) wanted))

-- the import of a file
abbrev pub Imports : List ℕ → List ℕ → List ℕ → List ℕ → List ℕ → Imported → Type 0
Imports file order list order' list' r = Fills (imported file) order list order' list' r

-- IN THIS PAPER'S NUMBERS: the sizes, or number and place.
pub told_so : (order list : ℕ) (wanted : Result Import) → told_imported (imported_for order list wanted) ≡ told (sizes_of (room_for_both order list wanted))
told_so order list (refused r p) = refl
told_so order list (good i) = go (ltb order (length i.order)) refl (ltb list (length i.list)) refl
  where
    go : (a : Bool) → ltb order (length i.order) ≡ a → (b : Bool) → ltb list (length i.list) ≡ b →
        told_imported (imported_for order list (good i)) ≡ told (sizes_of (room_for_both order list (good i)))
    go true e b e' = rw e
    go false e true e' = rw (e, e')
    go false e false e' = rw (e, e')

-- what is wanted, said otherwise
pub fills_as : {a b : Result Import} {order list order' list' : List ℕ} {r : Imported} → b ≡ a → Fills a order list order' list' r → Fills b order list order' list' r
fills_as {order = order} {list} {order'} {list'} {r} e h = subst (λ w. Fills w order list order' list' r) (sym e) h

module _ {wanted : Result Import} {order list : List ℕ} where
  -- 14 or 15
  pub fills_none : (r : Refused) → wanted ≡ refused r.refusal r.place → Fills wanted order list order list (Err (NotImported.Refused r))
  fills_none r e = rw e (record { answer = refl; orders = refl; lists = refl })

  module _ (i : Import) (e : wanted ≡ good i) where
    -- 24 of the order file's buffer
    pub fills_no_order : length order < length i.order → Fills wanted order list order list (Err NotImported.OrderShort)
    fills_no_order b = let t = lt-ltb (length order) (length i.order) b in rw e (record { answer = rw t; orders = rw t; lists = rw t })

    -- 24 of the list's
    pub fills_no_list : length i.order ≤ length order → length list < length i.list → Fills wanted order list order list (Err NotImported.ListShort)
    fills_no_list b c =
        let t = le-ltb (length order) (length i.order) b in
        let u = lt-ltb (length list) (length i.list) c in
        rw e (record { answer = rw (t, u); orders = rw (t, u); lists = rw (t, u) })

    -- both are written
    pub fills_both : {order' list' : List ℕ} {o l : ℕ} → length i.order ≤ length order → length i.list ≤ length list → o ≡ length i.order → l ≡ length i.list →
        Stored order 0 i.order order' → Stored list 0 i.list list' → Fills wanted order list order' list' (Ok (record { order = o; list = l }))
    fills_both b c p q f g =
        let t = le-ltb (length order) (length i.order) b in
        let u = le-ltb (length list) (length i.list) c in
        rw e (record { answer = rw (t, u, p, q); orders = rw (t, u) (stored-filled b f); lists = rw (t, u) (stored-filled c g) })
