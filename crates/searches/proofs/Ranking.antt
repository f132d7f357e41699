-- Ranks by keys, and keys that rise along a closure.
use Rattle.std.proofs.Common.{◌≡◌, ℕ, zero, suc, ◌+◌, ◌<◌, ◌≤◌, Bool, true, false, cond, ltb, List, [], ◌∷◌, length, get_or, count_by, sym, refl, ap, ◌∙◌, ap₂, ⊎_elim, arith}
use Rattle.std.proofs.lemmas.Bool.{lt-ltb, le-ltb, ltb-true, cases_order}
use Rattle.std.proofs.lemmas.List.Sums.{sum_by-cons}
use Rattle.rows.specs.Row.{count, tick}
use Rattle.rows.proofs.Words.{count_lacks, count_first}
use Rattle.relations.specs.Algebra.{Rel, inverse}
use Rattle.relations.specs.Chains.{one, DecidesChains}
use Rattle.relations.specs.Table.{On}
use Rattle.relations.proofs.Closure.{chain_append}
use Rattle.relations.proofs.Ranges.{on_more}
use Rattle.searches.specs.Keys.{key, rank}
use Rattle.searches.specs.Places.{IsOrder}

-- ---- ranks

-- how many keys of a list pass a test
pub counted : (keys : List ℕ) (test : ℕ → Bool) → count_by test keys ≡ count (length keys) (λ b. test (get_or keys b 0))
unfolding count
counted [] test = refl
counted (k ∷ keys) test = sum_by-cons (λ x. cond (test x) 1 0) k keys ∙ ap₂ ◌+◌ (ticked (test k)) (counted keys test) ∙ sym (count_first (length keys) (λ b. test (get_or (k ∷ keys) b 0)))
  where
    ticked : (t : Bool) → cond t 1 0 ≡ tick t
    ticked true = refl
    ticked false = refl

-- a smaller key has a lower rank
rank_rises : (n : ℕ) (keys : ℕ → ℕ) (a b : ℕ) → a < n → keys a < keys b → rank n keys (keys a) < rank n keys (keys b)
unfolding rank
rank_rises n keys a b l h =
    count_lacks n a (λ x. ltb (keys x) (keys a)) (λ x. ltb (keys x) (keys b)) (λ x m e. lt-ltb (keys x) (keys b) (omega (arith, ltb-true (keys x) (keys a) e))) l
    (le-ltb (keys a) (keys a) (omega arith)) (lt-ltb (keys a) (keys b) h)

count_all : (n : ℕ) → count n (λ _. true) ≡ n
unfolding count
count_all zero = refl
count_all (suc n) = omega (arith, count_all n)

rank_below : (n : ℕ) (keys : ℕ → ℕ) (a : ℕ) → a < n → rank n keys (keys a) < n
unfolding rank
rank_below n keys a l =
    omega (arith, count_all n, count_lacks n a (λ x. ltb (keys x) (keys a)) (λ _. true) (λ x m e. refl) l (le-ltb (keys a) (keys a) (omega arith)) refl)

-- ---- keys

-- of two events that are related by a closure without loops, the second has the larger key
key_rises : (r s : Rel) (a b : ℕ) → On 64 r → DecidesChains s r → ((x : ℕ) → s x x ≡ false) → r a b ≡ true → key (inverse s) a < key (inverse s) b
unfolding key inverse
key_rises r s a b on chains none h =
    omega (arith, count_lacks 64 a (λ x. s x a) (λ x. s x b) (λ x l e. (chains x b).1 (chain_append ((chains x a).0 e) (one h))) (on a b h).0 (none a) ((chains a b).1 (one h)), (on a b h).0)

key_apart : (p : Rel) (a b : ℕ) → a < 64 → b < 64 → key p a ≡ key p b → a ≡ b
unfolding key
key_apart p a b h l e = omega arith

-- ---- so ranks by these keys are an order

pub order_from : (r s p : Rel) (n : ℕ) (keys place : ℕ → ℕ) → n ≤ 64 → On n r → DecidesChains s r → ((x : ℕ) → s x x ≡ false) → p ≡ inverse s
    → ((a : ℕ) → a < n → keys a ≡ key p a) → ((a : ℕ) → a < n → place a ≡ rank n keys (keys a)) → IsOrder r n place
order_from r s p n keys place few on chains none turned known ranked = record {
  below = λ a l. rw (ranked a l) (rank_below n keys a l);
  apart = apart;
  rising = λ a b h. place_rises a b (on a b h).0 (on a b h).1 (keys_rise a b h);
}
  where
    keys_rise : (a b : ℕ) → r a b ≡ true → keys a < keys b
    keys_rise a b h = rw (known a (on a b h).0, known b (on a b h).1, turned) (key_rises r s a b (on_more n 64 r few on) chains none h)

    place_rises : (a b : ℕ) → a < n → b < n → keys a < keys b → place a < place b
    place_rises a b l m h = rw (ranked a l, ranked b m) (rank_rises n keys a b l h)

    apart : (a b : ℕ) → a < n → b < n → place a ≡ place b → a ≡ b
    apart a b l m e =
        ⊎_elim (λ z. key_apart p a b (omega arith) (omega arith) (sym (known a l) ∙ z ∙ known b m))
        (λ z. ⊎_elim (λ h. absurd (omega (arith, place_rises a b l m h))) (λ h. absurd (omega (arith, place_rises b a m l h))) z) (cases_order (keys a) (keys b))

-- the same of a list of keys
pub order_listed : (r s p : Rel) (n : ℕ) (keys : List ℕ) (place : ℕ → ℕ) → n ≤ 64 → length keys ≡ n → On n r → DecidesChains s r → ((x : ℕ) → s x x ≡ false) → p ≡ inverse s
    → ((a : ℕ) → a < n → get_or keys a 0 ≡ key p a) → ((a : ℕ) → a < n → place a ≡ rank (length keys) (λ b. get_or keys b 0) (get_or keys a 0)) → IsOrder r n place
order_listed r s p n keys place few long on chains none turned known ranked =
    order_from r s p n (λ a. get_or keys a 0) place few on chains none turned known
    (λ a l. ranked a l ∙ ap (λ (m : ℕ). rank m (λ b. get_or keys b 0) (get_or keys a 0)) long)
