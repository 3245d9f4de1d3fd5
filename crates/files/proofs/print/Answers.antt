use Rattle.std.proofs.Common.{◌≡◌, ℕ, ◌+◌, ◌-◌, List, ◌++◌, arith, length, take, drop, sym, ap, ◌∙◌, subst, take-add}
use Rattle.std.proofs.lemmas.List.{take_rest}
use Rattle.std.specs.Io.KnownBytes.{Appends}
use Rattle.std.proofs.KnownBytes.{Appends-trans}
use Rattle.files.proofs.print.Goals as goal

more_taken : (a n : ℕ) (xs : List ℕ) → take a xs ++ take n (take (length xs - a) (drop a xs)) ≡ take (a + n) xs
more_taken a n xs = ap (λ l. take a xs ++ take n l) (take_rest xs a) ∙ sym (take-add a n xs)

pub loop-done-preserved : goal.loop-done-preserved
loop-done-preserved g c =
    (omega (arith, c.in-Ok.ensures.bound), subst (Appends _ _) (more_taken c.loop-done.done c.in-Ok.more c.args.bytes.now) (Appends-trans _ _ _ _ _ c.loop-done.invariant.1 c.in-Ok.ensures.bytes))
