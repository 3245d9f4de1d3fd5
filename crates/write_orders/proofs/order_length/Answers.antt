-- `write_orders::order_length` meets its contract: a finished drawing has 3 n - 6 lines.
use Rattle.std.proofs.Common.{◌≡◌, ap, sym, ◌∙◌, arith, eq-eqb, ne_eqb}
use Rattle.exchange.specs.Lengths.{scale_bytes}
use Rattle.exchange.proofs.Lengths.{order-size}
use Rattle.write_orders.proofs.order_length.Goals as goal

pub returns-then-c-eq1-clause-exact : goal.returns-then-c-eq1-clause-exact
returns-then-c-eq1-clause-exact c = λ d w n s. let e : scale_bytes d.s ≡ 0 = ap scale_bytes (sym s) ∙ rw (eq-eqb _ _ c.if-c-eq1.true) in omega (arith, order-size d w, e, n)

pub returns-else-c-eq1-clause-exact : goal.returns-else-c-eq1-clause-exact
returns-else-c-eq1-clause-exact c = λ d w n s. let e : scale_bytes d.s ≡ 4 = ap scale_bytes (sym s) ∙ rw (ne_eqb _ _ c.if-c-eq1.false) in omega (arith, order-size d w, e, n)
