-- A file's net in arrays, once it is taken.
use Rattle.std.specs.Prelude.{ℕ, ◌≡◌, List, true, false}
use Rattle.std.proofs.Common.{ap, sym, ◌∙◌, subst}
use Rattle.rules.specs.declared.Refusal.TheVariants.{NoNet}
use Rattle.rules.specs.Refusals.{good, refused}
use Rattle.planar_rules.specs.PlanarCode.{Flat, net_of, taken?, import_of, imported}
use Rattle.planar_sphere.specs.Flat.{Valid}
use Rattle.planar_sphere.proofs.Check.{taken_yes}
use Rattle.planar_order.specs.Theorem.{Ordered}
use Rattle.planar_order.proofs.Theorem.{ordered, own_first}
use Rattle.planar_reading.specs.Reads.{net_in, Holding, no_net}
use Rattle.planar_reading.specs.declared.net.Net.{Net}

-- the net is the file's, and is taken
pub record TakenIn (file : List ℕ) (net : Net) : Type 0 where
  pub holding : Holding file net
  pub taken : taken? (net_of file) ≡ true

module _ {file : List ℕ} {net : Net} (h : Holding file net) where
  -- the test on the arrays is that on the file's net
  pub held_taken : taken? (net_in net) ≡ true → TakenIn file net
  held_taken t = record { holding = h; taken = ap taken? (sym h.is) ∙ t }

  pub held-refused : taken? (net_in net) ≡ false → imported file ≡ refused NoNet 0
  held-refused t = no_net file h.formed (ap taken? (sym h.is) ∙ t)

module _ {file : List ℕ} {net : Net} (t : TakenIn file net) where
  abbrev f : Flat
  f = net_in net

  -- its import
  pub taken_gives : imported file ≡ good (import_of f)
  unfolding imported
  taken_gives = rw (t.holding.formed, t.taken) (ap (λ g. good (import_of g)) (sym t.holding.is))

  pub its_valid : Valid f
  its_valid = taken_yes f net.kept.some (ap taken? t.holding.is ∙ t.taken)

  pub its_first : f.own 0 ≡ 0
  its_first = subst (λ g. g.own 0 ≡ 0) (sym t.holding.is) (own_first file t.holding.formed t.taken)

  pub its_order : Ordered f
  its_order = ordered f net.kept.listed its_valid its_first
