-- Two first tables agree on every section and period.
use Rattle.std.proofs.Common.{◌≡◌, ℕ, zero, suc, ◌+◌, ◌*◌, ◌<◌, Bool, true, false, sym, refl, ◌∙◌, arith}
use Rattle.grace.specs.Scene.{Scene, Sound}
use Rattle.grace.specs.Law.{Table, pair}
use Rattle.grace.specs.First.{sooner, First, OnlyFirst}
use Rattle.grace.proofs.Closure.{On}
use Rattle.grace.proofs.Entries.{pair_small, sooner_place}

module _ (x : Scene) (sound : Sound x) (F H : Table) (f : First x F) (h : First x H) where
  -- F and H agree on the pairs whose place is below i
  Agree : ℕ → Type 0
  Agree i = (l s : ℕ) → On (pair x) l s → l * 64 + s < i → F l s ≡ H l s

  agree_there : (l s : ℕ) → On (pair x) l s → ((k t : ℕ) → On (pair x) k t → sooner k t l s ≡ true → F k t ≡ H k t) → F l s ≡ H l s
  agree_there l s e same = by (F l s) (H l s) refl refl
    where
      by : (u v : Bool) → F l s ≡ u → H l s ≡ v → F l s ≡ H l s
      by true true p q = p ∙ sym q
      by false false p q = p ∙ sym q
      by true false p q =
          absurd (h.no_sooner F (record { lock = l; period = s; is_pair = e; section_in_F = p; period_in_H = q; same_before = same }) f.obeys)
      by false true p q =
          absurd (f.no_sooner H (record { lock = l; period = s; is_pair = e; section_in_F = q; period_in_H = p; same_before = λ k t d o. sym (same k t d o) }) h.obeys)

  agree : (i : ℕ) → Agree i
  unfolding Agree
  agree zero = λ l s e lt. absurd (omega arith)
  agree (suc i) = λ l s e lt.
      agree_there l s e (λ k t d o. agree i k t d (omega (arith, sooner_place x sound k t l s (pair_small x sound k t d).1 o)))

pub only_first : OnlyFirst
unfolding Agree
only_first x sound F H f h l s e = agree x sound F H f h (suc (l * 64 + s)) l s e (omega arith)
