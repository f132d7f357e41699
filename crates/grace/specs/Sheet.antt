-- Balances kept on a sheet, one relay at a time: how the law is decided without going through all walks.
use Rattle.std.specs.Prelude.{ℕ, zero, suc, ◌+◌, ◌-◌, ◌≤◌, max, Bool, cond, ◌&&◌, ◌||◌, ◌==◌, nat_le}
use Rattle.relations.specs.Algebra.{Set, any}

-- For each two events: 0 where nothing leads from one to the other, else 128 and the periods, less the sections, of the best way.
abbrev pub Sheet : Type 0
Sheet = ℕ → ℕ → ℕ

-- Each entry is 0, or from 64 to 192: so it is on every sheet below as long as nothing turns, and fits a byte.
abbrev pub Fits : Sheet → Type 0
Fits m = (a b : ℕ) → 1 ≤ m a b → (64 ≤ m a b) × (m a b ≤ 192)

-- the largest of v over the first n numbers that are in s; 0 if there is none
unfoldable pub most : ℕ → Set → (ℕ → ℕ) → ℕ
most zero s v = 0
most (suc n) s v = max (cond (s n) (v n) 0) (most n s v)

-- the entry for two ways, one after the other, with i periods and j sections between them
unfoldable pub joined : ℕ → ℕ → ℕ → ℕ → ℕ
joined i j u v = cond (u == 0 || v == 0) 0 ((u + v + i) - (128 + j))

-- the sheet with a relay besides: from every event of `into` to every event of `out`, with i periods and j sections
unfoldable pub relayed : Sheet → Set → Set → ℕ → ℕ → Sheet
relayed m into out i j a b = max (m a b) (joined i j (most 64 into (m a)) (most 64 out (λ d. m d b)))

-- such a relay makes a round: a way leads back to it with at least as many periods as sections, those of the relay counted
unfoldable pub turns : Sheet → Set → Set → ℕ → ℕ → Bool
turns m into out i j = any 64 (λ d. out d && nat_le (128 + j) (most 64 into (m d) + i))
