-- What the tables hold after a text was scanned, and the answers from them.
use Rattle.std.proofs.Common.{◌≡◌, ℕ, ◌<◌, ◌≤◌, Bool, true, false, ◌&&◌, ltb, List, [], ◌++◌, length, get_or, drop, replicate, Some, None, Ok, Err, MatchBool, Option, Result, sym, refl, ap, ◌∙◌, ap₂, subst₂, arith}
use mathlib.Core.Path.{fun_ext}
use Rattle.std.proofs.lemmas.List.{length-take-le}
use Rattle.std.proofs.lemmas.Bool.{lt-ltb, le-ltb}
use Rattle.rows.specs.Row.{bit}
use Rattle.rows.proofs.Bits.{bit_zero}
use Rattle.executions.specs.declared.events.Event.{Event}
use Rattle.executions.specs.declared.ties.Relation.{Relation}
use Rattle.executions.specs.Execution.{Execution, Ties, unused}
use Rattle.executions.specs.Ties.{relation_number, relation_of}
use Rattle.executions.specs.Words.{word_at, ties_of}
use Rattle.sources.specs.Source.{bounded, targets}
use Rattle.tables.specs.declared.kinds.OpenCase.{OpenCase}
use Rattle.tables.specs.Plain.{Plain, blank, short}
use Rattle.casetext.specs.declared.kinds.TextFault.{TextFault}
use Rattle.casetext.specs.Reading.{read_plain, Reads}
use Rattle.textsource.specs.Meaning.{meant, holding}
use Rattle.tables.proofs.Holding.{no_ties}

-- ---- after read

abbrev of_result : Result Plain TextFault → Execution
of_result r = elim r as (λ _. Execution) [ Ok p ↦ p.execution | Err f ↦ blank.execution ]

meant_by : (bs : List ℕ) (n m : ℕ) (r : Result Plain TextFault) → n ≡ 64 → m ≡ 384 → read_plain n m bs ≡ r → of_result r ≡ meant bs
unfolding meant
meant_by bs n m r e k h = ap of_result (sym h ∙ ap₂ (λ (i j : ℕ). read_plain i j bs) e k)

-- a text that was read
pub read_holds : (bs : List ℕ) (rs : List Event) (ws : List ℕ) (rs' : List Event) (ws' : List ℕ) (c : OpenCase) → Reads bs rs ws rs' ws' (Ok c) → length rs ≡ 64 → length ws ≡ 384
    → holding c.count rs' ws' ≡ meant bs
read_holds bs rs ws rs' ws' c read e k = ap (λ (p : Plain). p.execution) read.2.0 ∙ meant_by bs (length rs) (length ws) (Ok read.0) e k read.1

-- a text that was refused
pub refusal_holds : (bs : List ℕ) (rs : List Event) (ws : List ℕ) (rs' : List Event) (ws' : List ℕ) (f : TextFault) → Reads bs rs ws rs' ws' (Err f) → length rs ≡ 64 → length ws ≡ 384
    → holding 0 rs' ws' ≡ meant bs
refusal_holds bs rs ws rs' ws' f read e k =
    let zeros = subst₂ (λ (n m : ℕ). MatchBool (short n m) ((rs' ≡ rs) × (ws' ≡ ws)) ((rs' ≡ replicate 64 unused ++ drop 64 rs) × (ws' ≡ replicate 384 0 ++ drop 384 ws))) e k read.1 in
    ap (λ (l : List ℕ). record { events = []; ties = ties_of l }) zeros.1
    ∙ ap (λ (ts : Ties). record { events = []; ties = ts }) (fun_ext λ r. fun_ext λ a. fun_ext λ b. no_ties (drop 384 ws) r a b)
    ∙ meant_by bs (length rs) (length ws) (Err f) e k read.0

-- ---- answers

-- a relation or an event that there is not
pub row_unknown : (x : Execution) (number a : ℕ) → None ≡ relation_of number → bit 0 ≡ targets x number a
unfolding targets
row_unknown x number a e = fun_ext λ b. bit_zero b ∙ ap (λ (o : Option Relation). elim o as (λ _. Bool) [ None ↦ false | Some r ↦ (bounded x).ties r a b ]) e

at_relation : (x : Execution) (number a b : ℕ) (r : Relation) → Some r ≡ relation_of number → (bounded x).ties r a b ≡ targets x number a b
unfolding targets
at_relation x number a b r e = ap (λ (o : Option Relation). elim o as (λ _. Bool) [ None ↦ false | Some q ↦ (bounded x).ties q a b ]) e

pub row_past : (x : Execution) (n number a : ℕ) (r : Relation) (rs : List Event) (ws : List ℕ) → holding n rs ws ≡ x → n ≤ length rs → Some r ≡ relation_of number → n ≤ a → bit 0 ≡ targets x number a
row_past x n number a r rs ws e k known h =
    let counted : length x.events ≡ n = sym (ap (λ (y : Execution). length y.events) e) ∙ length-take-le n rs k in
    fun_ext λ b. bit_zero b ∙ sym (ap (λ (t : Bool). t && (ltb b 64 && x.ties r a b)) (le-ltb a (length x.events) (omega arith))) ∙ at_relation x number a b r known

-- ties go to numbers below 64
ties_low : (ws : List ℕ) (r : Relation) (a b : ℕ) → ties_of ws r a b ≡ (ltb b 64 && ties_of ws r a b)
unfolding ties_of
ties_low ws r a b = twice (ltb a 64) (ltb b 64) (bit (get_or ws (word_at (relation_number r) a) 0) b)
  where
    twice : (x y z : Bool) → (x && (y && z)) ≡ (y && (x && (y && z)))
    twice true true z = refl
    twice true false z = refl
    twice false true z = refl
    twice false false z = refl

pub row_there : (x : Execution) (n number a w : ℕ) (r : Relation) (rs : List Event) (ws : List ℕ) → holding n rs ws ≡ x → n ≤ length rs → Some r ≡ relation_of number → a < n
    → bit w ≡ ties_of ws r a → bit w ≡ targets x number a
row_there x n number a w r rs ws e k known h row =
    let counted : length x.events ≡ n = sym (ap (λ (y : Execution). length y.events) e) ∙ length-take-le n rs k in
    row ∙ fun_ext λ b.
    ties_low ws r a b
    ∙ ap (λ (y : Execution). ltb b 64 && y.ties r a b) e
    ∙ sym (ap (λ (t : Bool). t && (ltb b 64 && x.ties r a b)) (lt-ltb a (length x.events) (omega arith)))
    ∙ at_relation x number a b r known
