-- Where a list is cut, and that the parts make it up again.
use Rattle.std.proofs.Common.{◌≡◌, ℕ, ◌+◌, Bool, true, false, cond, not, ◌&&◌, eqb, ltb, List, [], ◌∷◌, ◌++◌, length, take, drop, Some, None, Option, sym, refl, ap, arith}
use Rattle.std.proofs.lemmas.Bool.{lt-ltb, eqb-true, eq-eqb, and_parts, not-true}
use Rattle.std.specs.List.{position, position_or_len}
use Rattle.std.proofs.lemmas.Grind.{common_steps}
use Rattle.std.proofs.lemmas.Option.{none-some, same_Some}
use Rattle.caselines.specs.Fields.{behind, cut}

-- a list is cut at the first byte that is the stop
abbrev pub parted : List ℕ → Option ℕ → Option (List ℕ × List ℕ)
parted bs None = None
parted bs (Some i) = Some (take i bs, drop (i + 1) bs)

pub cut_first : (stop : ℕ) (bs : List ℕ) → cut stop bs ≡ parted bs (position (λ c. eqb c stop) bs)
unfolding cut
cut_first stop [] = refl
cut_first stop (c ∷ cs) = go (eqb c stop) refl (cut_first stop cs)
  where
    one_more : (n : ℕ) → behind c (parted cs (cond (ltb n (length cs)) (Some n) None)) ≡ parted (c ∷ cs) (cond (ltb (1 + n) (length (c ∷ cs))) (Some (1 + n)) None)
    one_more n = grind (arith, common_steps)

    go : (t : Bool) → eqb c stop ≡ t → cut stop cs ≡ parted cs (position (λ d. eqb d stop) cs) → cut stop (c ∷ cs) ≡ parted (c ∷ cs) (position (λ d. eqb d stop) (c ∷ cs))
    go true q later = rw (q, lt-ltb 0 (length (c ∷ cs)) (omega arith)) refl
    go false q later = rw (q, later) (one_more (position_or_len (λ d. eqb d stop) cs))

-- ---- the parts

-- a byte is not in a list
abbrev pub absent : ℕ → List ℕ → Bool
absent c [] = true
absent c (x ∷ xs) = not (eqb x c) && absent c xs

pub absent_append : (c : ℕ) (xs ys : List ℕ) → absent c xs ≡ true → absent c ys ≡ true → absent c (xs ++ ys) ≡ true
absent_append c [] ys p q = q
absent_append c (x ∷ xs) ys p q = let parts = and_parts (not (eqb x c)) (absent c xs) p in rw parts.0 (absent_append c xs ys parts.1 q)

-- a list that is cut at its first stop
pub cut_append : (stop : ℕ) (l rest : List ℕ) → absent stop l ≡ true → cut stop (l ++ stop ∷ rest) ≡ Some (l, rest)
unfolding cut
cut_append stop [] rest a = rw (eq-eqb stop stop refl) refl
cut_append stop (x ∷ l) rest a =
    let parts = and_parts (not (eqb x stop)) (absent stop l) a in
    rw (not-true (eqb x stop) parts.0, cut_append stop l rest parts.1) refl

-- and one that has no stop
pub cut_absent : (stop : ℕ) (l : List ℕ) → absent stop l ≡ true → cut stop l ≡ None
unfolding cut
cut_absent stop [] a = refl
cut_absent stop (x ∷ l) a =
    let parts = and_parts (not (eqb x stop)) (absent stop l) a in
    rw (not-true (eqb x stop) parts.0, cut_absent stop l parts.1) refl

same_halves : (a b f g : List ℕ) → ◌≡◌ {A = Option (List ℕ × List ℕ)} (Some (a, b)) (Some (f, g)) → (a ≡ f) × (b ≡ g)
same_halves a b f g e = let pair = same_Some _ _ e in (ap (λ q. q.0) pair, ap (λ q. q.1) pair)

-- what a cut gives makes up the list
pub record Halves (stop : ℕ) (bs l rest : List ℕ) : Type 0 where
  pub whole : bs ≡ l ++ stop ∷ rest
  pub clear : absent stop l ≡ true

pub cut_halves : (stop : ℕ) (bs l rest : List ℕ) → cut stop bs ≡ Some (l, rest) → Halves stop bs l rest
unfolding cut
cut_halves stop [] l rest e = absurd (none-some _ e)
cut_halves stop (x ∷ bs) l rest e = go (eqb x stop) refl (cut stop bs) refl e (cut_halves stop bs)
  where
    go : (t : Bool) → eqb x stop ≡ t → (o : Option (List ℕ × List ℕ)) → cut stop bs ≡ o → cond t (Some ([], bs)) (behind x o) ≡ Some (l, rest)
        → ((f b : List ℕ) → cut stop bs ≡ Some (f, b) → Halves stop bs f b) → Halves stop (x ∷ bs) l rest
    go true q o r k later =
        let same = eqb-true x stop q in
        let halves = same_halves [] bs l rest k in
        rw (← halves.0, ← halves.1, same) (record { whole = refl; clear = refl })
    go false q None r k later = absurd (none-some _ k)
    go false q (Some p) r k later =
        let deep = later p.0 p.1 r in
        let halves = same_halves (x ∷ p.0) p.1 l rest k in
        rw (← halves.0, ← halves.1) (record { whole = ap (λ b. x ∷ b) deep.whole; clear = rw q deep.clear })

pub cut_none : (stop : ℕ) (bs : List ℕ) → cut stop bs ≡ None → absent stop bs ≡ true
unfolding cut
cut_none stop [] e = refl
cut_none stop (x ∷ bs) e = go (eqb x stop) refl (cut stop bs) refl e (cut_none stop bs)
  where
    go : (t : Bool) → eqb x stop ≡ t → (o : Option (List ℕ × List ℕ)) → cut stop bs ≡ o → cond t (Some ([], bs)) (behind x o) ≡ None
        → (cut stop bs ≡ None → absent stop bs ≡ true) → absent stop (x ∷ bs) ≡ true
    go true q o r k later = absurd (none-some _ (sym k))
    go false q None r k later = rw q (later r)
    go false q (Some p) r k later = absurd (none-some _ (sym k))
