-- What a number names has that number.
use Rattle.std.proofs.Common.{◌≡◌, ℕ, Bool, true, false, cond, eqb, List, [], ◌∷◌, Some, sym, refl, ap, ◌∙◌, arith}
use Rattle.std.proofs.lemmas.Bool.{eqb-true}
use Rattle.executions.specs.Sorts.{numbered}

pub numbered_found : {E : Type 0} (number : E → ℕ) (es : List E) (n : ℕ) (e : E) → numbered number es n ≡ Some e → number e ≡ n
numbered_found number [] n e h = let z : ◌≡◌ {A = ℕ} 0 1 = cc in absurd (omega arith)
numbered_found number (x ∷ xs) n e h = go (eqb n (number x)) refl h (numbered_found number xs n e)
  where
    go : (t : Bool) → eqb n (number x) ≡ t → cond t (Some x) (numbered number xs n) ≡ Some e → (numbered number xs n ≡ Some e → number e ≡ n) → number e ≡ n
    go true q k later = let same : x ≡ e = cc in ap number (sym same) ∙ sym (eqb-true n (number x) q)
    go false q k later = later k
