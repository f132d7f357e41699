-- A relation of the code that is made row by row, on the events of a case.
use Rattle.std.proofs.Common.{◌≡◌, ℕ, ◌<◌, ◌≤◌, min, arith}
use Rattle.rows.specs.Row.{bit}
use Rattle.relations.specs.Algebra.{Rel}
use Rattle.relations.specs.Table.{On, HasRows}
use Rattle.relations.specs.View.{rel, size}
use Rattle.relations.specs.declared.kinds.Relation.{Relation}
use Rattle.relations.proofs.Built.{rows_are}
use Rattle.relations.proofs.Ranges.{on_more}

pub by_rows_is : (r : Relation) (t : Rel) (m n : ℕ) {answers : ℕ → ℕ → Type 0} → m ≡ n → n ≤ 64 → size r ≡ min m 64 → On n t → HasRows (min m 64) answers (rel r)
    → ((a w : ℕ) → a < n → answers a w → (b : ℕ) → b < n → bit w b ≡ t a b) → rel r ≡ t
by_rows_is r t m n same few size_is on rows gives =
    rows_are r (min m 64) t size_is (on_more n (min m 64) t (omega arith) on) rows (λ a w l fits p b k. gives a w (omega arith) p b (omega arith))
