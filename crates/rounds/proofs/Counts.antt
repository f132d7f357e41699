-- How many of the marks are periods.
use Rattle.std.proofs.Common.{◌≡◌, ℕ, zero, suc, ◌+◌, ◌<◌, Bool, true, false, List, [], ◌∷◌, length, get_or, sym, refl, ap, ap₂, arith}
use Rattle.rows.specs.Row.{Set, count, tick}
use Rattle.rounds.specs.declared.kinds.Mark.{Mark}
use Rattle.rounds.specs.declared.kinds.Mark.TheVariants.{Period, Section}
use Rattle.rounds.specs.Marks.{periods, sections}

abbrev pub is_period : Mark → Bool
is_period Period = true
is_period Section = false

-- the places of the periods in a list of marks
abbrev pub at_periods : List Mark → Set
at_periods ms i = is_period (get_or ms i Period)

count_first : (k : ℕ) (s : Set) → count (suc k) s ≡ tick (s 0) + count k (λ x. s (suc x))
unfolding count
count_first zero s = refl
count_first (suc k) s = omega (arith, count_first k s)

pub count_more : (k : ℕ) (s : Set) → count (suc k) s ≡ tick (s k) + count k s
unfolding count
count_more k s = refl

pub count_none : (s : Set) → count 0 s ≡ 0
unfolding count
count_none s = refl

pub count_same : (n : ℕ) (s t : Set) → ((k : ℕ) → k < n → s k ≡ t k) → count n s ≡ count n t
unfolding count
count_same zero s t e = refl
count_same (suc n) s t e = ap₂ ◌+◌ (ap tick (e n (omega arith))) (count_same n s t (λ k l. e k (omega arith)))

pub periods_count : (ms : List Mark) → periods ms ≡ count (length ms) (at_periods ms)
unfolding periods
periods_count [] = sym (count_none (at_periods []))
periods_count (Period ∷ ms) = omega (arith, periods_count ms, count_first (length ms) (at_periods (Period ∷ ms)))
periods_count (Section ∷ ms) = omega (arith, periods_count ms, count_first (length ms) (at_periods (Section ∷ ms)))

pub marks_total : (ms : List Mark) → periods ms + sections ms ≡ length ms
unfolding periods sections
marks_total [] = refl
marks_total (Period ∷ ms) = omega (arith, marks_total ms)
marks_total (Section ∷ ms) = omega (arith, marks_total ms)
