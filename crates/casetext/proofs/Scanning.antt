-- A text that is scanned line by line.
use Rattle.std.proofs.Common.{◌≡◌, ℕ, ◌+◌, ◌-◌, ◌^◌, ◌<◌, ◌≤◌, Bool, true, false, cond, not, eqb, ltb, List, [], ◌∷◌, ◌++◌, Some, None, Ok, Err, Option, Result, sym, refl, ap, ◌∙◌, subst, ⊎_elim, arith}
use Rattle.std.proofs.lemmas.List.{append-nil, append_assoc}
use Rattle.std.proofs.lemmas.Bool.{and_parts, not-true, eqb-false, cases_eq}
use Rattle.executions.specs.declared.faults.Cause.TheVariants.{LineOrder}
use Rattle.executions.specs.declared.faults.Fault.{Fault}
use Rattle.executions.specs.declared.sorts.Sort.{Sort}
use Rattle.executions.specs.declared.ties.Relation.{Relation}
use Rattle.executions.specs.Ties.{relation_number}
use Rattle.tables.specs.Plain.{Plain, enter_plain, tie_plain}
use Rattle.caselines.specs.declared.lines.Line.{Line}
use Rattle.caselines.specs.declared.lines.Line.TheVariants.{Events, Event, Ties, Tie}
use Rattle.caselines.specs.Fields.{cut}
use Rattle.caselines.specs.Lines.{spelled, line_of, Plain as Numbered}
use Rattle.caselines.proofs.Cutting.{absent, cut_halves, cut_none}
use Rattle.caselines.proofs.Spelling.{line_says}
use Rattle.casetext.specs.declared.kinds.Reader.{Reader}
use Rattle.casetext.specs.declared.kinds.Section.{Section}
use Rattle.casetext.specs.declared.kinds.Section.TheVariants.{Start, InEvents, InTies}
use Rattle.casetext.specs.declared.kinds.TextFault.{TextFault}
use Rattle.casetext.specs.Reading.{Step, moved, unfit, answered, entry, event_step, ties_step, tie_step, rank, record_of, text_fault, in_section, line_step, finish, onward, scan}

-- ---- lines

-- the bytes of a line gather
pub gather : (records words : ℕ) (s : Reader) (p : Plain) (begun l rest : List ℕ) → absent 10 l ≡ true
    → scan records words s p begun (l ++ rest) ≡ scan records words s p (begun ++ l) rest
unfolding scan
gather records words s p begun [] rest a = ap (λ b. scan records words s p b rest) (sym (append-nil begun))
gather records words s p begun (c ∷ l) rest a =
    let parts = and_parts (not (eqb c 10)) (absent 10 l) a in
    ap (λ (t : Bool). cond t (onward (line_step records words s begun p) (λ t q. scan records words t q [] (l ++ rest))) (scan records words s p (begun ++ c ∷ []) (l ++ rest))) (not-true (eqb c 10) parts.0)
    ∙ gather records words s p (begun ++ c ∷ []) l rest parts.1
    ∙ ap (λ b. scan records words s p b rest) (append_assoc begun (c ∷ []) l)

-- a line is taken at its byte 10
pub scan_line : (records words : ℕ) (s : Reader) (p : Plain) (l rest : List ℕ) → absent 10 l ≡ true
    → scan records words s p [] (l ++ 10 ∷ rest) ≡ onward (line_step records words s l p) (λ t q. scan records words t q [] rest)
unfolding scan
scan_line records words s p l rest a = gather records words s p [] l (10 ∷ rest) a

pub scan_cut : (records words : ℕ) (s : Reader) (p : Plain) (bs l rest : List ℕ) → cut 10 bs ≡ Some (l, rest)
    → scan records words s p [] bs ≡ onward (line_step records words s l p) (λ t q. scan records words t q [] rest)
scan_cut records words s p bs l rest e =
    let halves = cut_halves 10 bs l rest e in
    ap (scan records words s p []) halves.whole ∙ scan_line records words s p l rest halves.clear

-- the end of a text
pub scan_end : (records words : ℕ) (s : Reader) (p : Plain) (bs : List ℕ) → cut 10 bs ≡ None → scan records words s p [] bs ≡ finish s p bs
unfolding scan
scan_end records words s p bs e =
    ap (scan records words s p []) (sym (append-nil bs)) ∙ gather records words s p [] bs [] (cut_none 10 bs e)

-- after a line that was taken, and at a fault
pub onward_ok : (records words : ℕ) (s : Reader) (p : Plain) (l rest : List ℕ) (t : Reader) (q : Plain) → (q, Ok t) ≡ line_step records words s l p
    → onward (line_step records words s l p) (λ t q. scan records words t q [] rest) ≡ scan records words t q [] rest
onward_ok records words s p l rest t q e = ap (λ (k : Step). onward k (λ t q. scan records words t q [] rest)) (sym e)

pub onward_err : (records words : ℕ) (s : Reader) (p : Plain) (l rest : List ℕ) (f : TextFault) (q : Plain) → (q, Err f) ≡ line_step records words s l p
    → onward (line_step records words s l p) (λ t q. scan records words t q [] rest) ≡ Err f
onward_err records words s p l rest f q e = ap (λ (k : Step). onward k (λ t q. scan records words t q [] rest)) (sym e)

-- ---- how many lines there can be

-- the lines up to the end of the section
abbrev pub Within : Section → ℕ → ℕ → Type 0
Within Start left line = line ≡ 1
Within InEvents left line = line + left ≤ 100001
Within InTies left line = line + left ≤ 200001

abbrev pub Bounded : Reader → Type 0
Bounded s = Within s.section s.left s.line

few : (section : Section) (left line : ℕ) → Within section left line → line < 2 ^ 31
few Start left line h = omega arith
few InEvents left line h = omega arith
few InTies left line h = omega arith

pub bounded_line : (s : Reader) → Bounded s → s.line < 2 ^ 31
bounded_line s h = few s.section s.left s.line h

pub no_reader : (f : TextFault) (t : Reader) → ◌≡◌ {A = Result Reader TextFault} (Err f) (Ok t) → ⊥
no_reader f t e = let z : ◌≡◌ {A = ℕ} 0 1 = cc in absurd (omega arith)

pub entry_next : {A : Type 0} (s n t : Reader) (o : Result A Fault) → answered s n o ≡ Ok t → n ≡ t
entry_next s n t (Ok _) e = cc
entry_next s n t (Err f) e = absurd (no_reader _ t e)

event_bounded : (records words : ℕ) (s : Reader) (k : Sort) (thread place : ℕ) (p : Plain) (t : Reader) → (event_step records words s k thread place p).1 ≡ Ok t
    → Within InEvents s.left s.line → Bounded t
event_bounded records words s k thread place p t e h = go (eqb s.left 0) refl e
  where
    next : Reader
    next = moved s InEvents (s.left - 1) 0

    go : (b : Bool) → eqb s.left 0 ≡ b → (cond b (unfit s p) (entry s next (enter_plain records words (record_of k thread place) p))).1 ≡ Ok t → Bounded t
    go true q d = absurd (no_reader _ t d)
    go false q d =
        let some = eqb-false s.left 0 q in
        subst Bounded (entry_next s (moved s InEvents (s.left - 1) 0) t (enter_plain records words (record_of k thread place) p).1 d)
        (⊎_elim (λ z. absurd (some z)) (λ z. omega arith) (cases_eq s.left 0))

tie_bounded : (records words : ℕ) (s : Reader) (r : Relation) (a b : ℕ) (p : Plain) (t : Reader) → (tie_step records words s r a b p).1 ≡ Ok t
    → Within InTies s.left s.line → Bounded t
tie_bounded records words s r a b p t e h = go (eqb s.left 0) refl (ltb (rank r a b) s.least) e
  where
    go : (x : Bool) → eqb s.left 0 ≡ x → (y : Bool)
        → (cond x (unfit s p) (cond y (p, Err (text_fault LineOrder s.line)) (entry s (moved s InTies (s.left - 1) (rank r a b + 1)) (tie_plain records words (relation_number r) a b p)))).1 ≡ Ok t
        → Bounded t
    go true q y d = absurd (no_reader _ t d)
    go false q true d = absurd (no_reader _ t d)
    go false q false d =
        let some = eqb-false s.left 0 q in
        subst Bounded (entry_next s (moved s InTies (s.left - 1) (rank r a b + 1)) t (tie_plain records words (relation_number r) a b p).1 d)
        (⊎_elim (λ z. absurd (some z)) (λ z. omega arith) (cases_eq s.left 0))

ties_bounded : (s : Reader) (n : ℕ) (p : Plain) (t : Reader) → n < 100000 → (ties_step s n p).1 ≡ Ok t → Within InEvents s.left s.line → Bounded t
ties_bounded s n p t small e h = go (eqb s.left 0) e
  where
    counted : Step
    counted = (p, Ok (moved s InTies n 0))

    go : (b : Bool) → (cond b counted (unfit s p)).1 ≡ Ok t → Bounded t
    go true d = let same : moved s InTies n 0 ≡ t = cc in subst Bounded same (omega arith)
    go false d = absurd (no_reader _ t d)

section_bounded : (section : Section) (l : Line) (records words : ℕ) (s : Reader) (p : Plain) (t : Reader) → (in_section section l records words s p).1 ≡ Ok t
    → Numbered l → Within section s.left s.line → Bounded t
section_bounded Start (Events n) records words s p t e small h = let same : moved s InEvents n 0 ≡ t = cc in subst Bounded same (omega arith)
section_bounded Start (Event k u n) records words s p t e small h = absurd (no_reader _ t e)
section_bounded Start (Ties n) records words s p t e small h = absurd (no_reader _ t e)
section_bounded Start (Tie r a b) records words s p t e small h = absurd (no_reader _ t e)
section_bounded InEvents (Events n) records words s p t e small h = absurd (no_reader _ t e)
section_bounded InEvents (Event k u n) records words s p t e small h = event_bounded records words s k u n p t e h
section_bounded InEvents (Ties n) records words s p t e small h = ties_bounded s n p t small e h
section_bounded InEvents (Tie r a b) records words s p t e small h = absurd (no_reader _ t e)
section_bounded InTies (Events n) records words s p t e small h = absurd (no_reader _ t e)
section_bounded InTies (Event k u n) records words s p t e small h = absurd (no_reader _ t e)
section_bounded InTies (Ties n) records words s p t e small h = absurd (no_reader _ t e)
section_bounded InTies (Tie r a b) records words s p t e small h = tie_bounded records words s r a b p t e h

-- a line that was taken was the line of its bytes
pub record Took (records words : ℕ) (s : Reader) (bs : List ℕ) (p : Plain) (t : Reader) : Type 0 where
  pub taken : Line
  pub spelling : bs ≡ spelled taken
  pub numbers : Numbered taken
  pub gave : (in_section s.section taken records words s p).1 ≡ Ok t
  pub after : line_step records words s bs p ≡ in_section s.section taken records words s p

pub took : (records words : ℕ) (s : Reader) (bs : List ℕ) (p : Plain) (t : Reader) → (line_step records words s bs p).1 ≡ Ok t → Took records words s bs p t
unfolding line_step
took records words s bs p t e = go (line_of bs) refl e
  where
    go : (o : Option Line) → line_of bs ≡ o → (elim o as (λ _. Step) [ None ↦ unfit s p | Some k ↦ in_section s.section k records words s p ]).1 ≡ Ok t → Took records words s bs p t
    go None q d = absurd (no_reader _ t d)
    go (Some l) q d =
        let says = line_says bs l q in
        record {
          taken = l;
          spelling = says.whole;
          numbers = says.plain;
          gave = d;
          after = ap (λ (o : Option Line). elim o as (λ _. Step) [ None ↦ unfit s p | Some k ↦ in_section s.section k records words s p ]) q;
        }

pub line_bounded : (records words : ℕ) (s : Reader) (bs : List ℕ) (p : Plain) (t : Reader) → (line_step records words s bs p).1 ≡ Ok t → Bounded s → Bounded t
line_bounded records words s bs p t e h =
    let k = took records words s bs p t e in
    section_bounded s.section k.taken records words s p t k.gave k.numbers h
