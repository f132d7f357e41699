-- Union, `seq` and `star` in words: either of two, a step and a step, an event itself or a chain.
use Rattle.std.proofs.Common.{arith}
use Rattle.std.proofs.lemmas.Bool.Decides.{nat_tests}
use Rattle.std.proofs.Common.{◌≡◌, ℕ, ◌<◌, Bool, true, false, ◌⊎◌, refl}
use Rattle.std.proofs.lemmas.Bool.{and_from, or_cases, or_left, or_right, both_ways}
use Rattle.rows.proofs.Any.{any_some, any_from}
use Rattle.relations.specs.Algebra.{Rel, any, identity, union, seq, plus, opt, star}
use Rattle.relations.specs.Chains.{Chain, Chain.one, Chain.step, Acyclic}
use Rattle.relations.proofs.Closure.{paths_sound, paths_first, paths_join, on_paths}
use Rattle.relations.proofs.Ranges.{on_either, on_identity}
use Rattle.grace.specs.Scene.{Within}

-- the pairs of a test, as a relation
abbrev pub On : Rel → ℕ → ℕ → Type 0
On r a b = r a b ≡ true

-- ---- union, and a step and a step

pub union_cases : (r s : Rel) {a b : ℕ} → On (union r s) a b → On r a b ⊎ On s a b
unfolding union
union_cases r s {a} {b} e = or_cases _ _ e

pub union_left : (r s : Rel) {a b : ℕ} → On r a b → On (union r s) a b
unfolding union
union_left r s {a} {b} e = or_left _ _ e

pub union_right : (r s : Rel) {a b : ℕ} → On s a b → On (union r s) a b
unfolding union
union_right r s {a} {b} e = or_right _ _ e

pub seq_parts : (r s : Rel) {a b : ℕ} → On (seq r s) a b → (c : ℕ) × (c < 64) × On r a c × On s c b
unfolding seq
seq_parts r s {a} {b} e = grind (arith, nat_tests, any_some)

pub seq_from : (r s : Rel) {a b c : ℕ} → c < 64 → On r a c → On s c b → On (seq r s) a b
unfolding seq
seq_from r s {a} {b} {c} l e k = any_from 64 c _ l (and_from _ _ e k)

-- ---- r+ and r*

pub plus_chain : (r : Rel) {a b : ℕ} → On (plus r) a b → Chain r a b
unfolding plus
plus_chain r {a} {b} e = paths_sound 64 r a b e

-- every step of r begins at one of the first 64 events
abbrev pub Starts : Rel → Type 0
Starts r = (a b : ℕ) → On r a b → a < 64

-- as where r is on the first 64 events
pub starts_from : (r : Rel) → Within 64 r → Starts r
starts_from r small a b e = (small a b e).0

pub chain_start : {r : Rel} {a b : ℕ} → Starts r → Chain r a b → a < 64
chain_start l (one e) = l _ _ e
chain_start l (step e h) = l _ _ e

pub chain_plus : (r : Rel) {a b : ℕ} → Starts r → Chain r a b → On (plus r) a b
unfolding plus
chain_plus r {a} {b} l (one e) = paths_first 64 r a b e
chain_plus r {a} {b = c} l (step {b = b} e h) = paths_join 64 b r a c (chain_start l h) (paths_first 64 r a b e) (chain_plus r l h)

pub star_cases : (n : ℕ) (r : Rel) {a b : ℕ} → On (star n r) a b → ((a ≡ b) × (a < n)) ⊎ Chain r a b
unfolding star opt union identity
star_cases n r {a} {b} e = grind (arith, nat_tests, plus_chain)

pub star_here : (n : ℕ) (r : Rel) {a b : ℕ} → a ≡ b → a < n → On (star n r) a b
unfolding star opt union identity
star_here n r {a} {b} e l = grind (arith, nat_tests)

pub star_chain : (n : ℕ) (r : Rel) {a b : ℕ} → Starts r → Chain r a b → On (star n r) a b
unfolding star opt
star_chain n r {a} {b} l h = union_left _ _ (chain_plus r l h)

pub star_within : (n : ℕ) (r : Rel) → Within n r → Within n (star n r)
unfolding star opt plus
star_within n r on = on_either n (plus r) (identity n) (on_paths 64 n r on) (on_identity n)

-- ---- whether a relation has a cycle is decided

pub dec_acyclic : (r : Rel) → Starts r → Dec (Acyclic r)
dec_acyclic r l = by (any 64 (λ a. plus r a a)) refl
  where
    by : (t : Bool) → any 64 (λ a. plus r a a) ≡ t → Dec (Acyclic r)
    by true e = let h = any_some 64 _ e in no (λ k. k h.0 (plus_chain r h.2))
    by false e = yes (λ a h. both_ways _ e (any_from 64 a _ (chain_start l h) (chain_plus r l h)))
