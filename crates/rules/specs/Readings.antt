-- Entries without the test of 13, and the tests with their run beside them.
use Rattle.std.specs.Prelude.{ℕ, zero, suc, ◌/◌, ◌%◌, List, length, drop, leb, ltb}
use Rattle.rules.specs.declared.Kind.{Kind}
use Rattle.rules.specs.declared.Kind.TheVariants.{Guide, Plain, Feeder}
use Rattle.rules.specs.declared.Entry.{Entry}
use Rattle.rules.specs.declared.Refusal.TheVariants.{Finished, FewEntries}
use Rattle.rules.specs.Refusals.{Result, ◌>>◌, refuse_if}
use Rattle.rules.specs.Entries.{point_limit}
use Rattle.rules.specs.Points.{Drawing}
use Rattle.rules.specs.Adding.{l_of, run_tests, whole_test}

-- ---- an entry without the test: of a number that isn't marked both, the one that is read

abbrev pub kind_in : ℕ → Kind
kind_in zero = Plain
kind_in (suc zero) = Feeder
kind_in (suc (suc b)) = Guide

abbrev pub entry_of : ℕ → Entry
entry_of e = record { point = e % point_limit; kind = kind_in (e / point_limit) }

-- ---- the tests with their run beside them

-- 21 and 5, whatever the entries' own tests give, 8 and 9
abbrev pub tests_with : Drawing → List ℕ → Result (Unit {0}) → Result (Unit {0})
tests_with d run entries = do
  refuse_if (leb d.n d.k) Finished 0
  refuse_if (ltb (length run) 2) FewEntries 0
  entries
  run_tests 0 (drop (l_of d run) d.boundary) run
  whole_test d run
