-- What calls do, one after another.
use Rattle.std.proofs.Common.{true≢false, ◌≡◌, ℕ, ◌+◌, ◌-◌, ◌<◌, ◌≤◌, eqb, ltb, List, length, take, drop, Some, None, Ok, Err, Option, Result, sym, refl, ap, ◌∙◌, subst, arith}
use Rattle.std.specs.Result.{is_ok}
use Rattle.std.proofs.lemmas.List.{length-take, drop-set-lt}
use Rattle.std.proofs.lemmas.Bool.{cond-true, cond-false, ne_eqb, le-ltb, lt-ltb}
use Rattle.rows.specs.Row.{adding}
use Rattle.executions.specs.declared.faults.Cause.TheVariants.{LineForm, LineOrder}
use Rattle.executions.specs.declared.sorts.Sort.{Sort}
use Rattle.executions.specs.declared.events.Event.{Event}
use Rattle.executions.specs.declared.faults.Fault.{Fault}
use Rattle.executions.specs.declared.ties.Relation.{Relation}
use Rattle.executions.specs.Ties.{relation_number}
use Rattle.executions.specs.Words.{word_at}
use Rattle.executions.proofs.Words.{number_range}
use Rattle.tables.specs.Plain.{Plain, enter_plain, tie_plain}
use Rattle.tables.specs.Tables.{Tables, plain_of, Represents, Does, Written}
use Rattle.caselines.specs.declared.lines.Line.{Line}
use Rattle.caselines.specs.Lines.{line_of}
use Rattle.casetext.specs.declared.kinds.Located.{Located}
use Rattle.casetext.specs.declared.kinds.Reader.{Reader}
use Rattle.casetext.specs.declared.kinds.Section.TheVariants.{InEvents, InTies}
use Rattle.casetext.specs.declared.kinds.TextFault.{TextFault}
use Rattle.casetext.specs.declared.kinds.TextFault.TheVariants.{Entry}
use Rattle.casetext.specs.Reading.{Step, located, answered, entry, moved, unfit, text_fault, record_of, rank, event_step, tie_step, in_section, line_step}
use Rattle.casetext.proofs.Accepting.{tie_accepted}

-- a call that leaves the tables as they are
pub leaves : {A : Type 0} (step : Plain → Plain × A) (t : Tables) (r : A) → ((p : Plain) → step p ≡ (p, r)) → Does step t t r
leaves step t r e = record {
  on_any = sym (e (plain_of t));
  on_exact = λ p h. (subst (λ q. Represents t q.0) (sym (e p)) h, sym (ap (λ q. q.1) (e p)));
}

-- a call whose answer is turned into another
pub turned : {A B : Type 0} (step : Plain → Plain × A) (turn : A → B) (t t' : Tables) (r : A) → Does step t t' r → Does (λ p. ((step p).0, turn (step p).1)) t t' (turn r)
turned step turn t t' r d = record {
  on_any = ap (λ q. (q.0, turn q.1)) d.on_any;
  on_exact = λ p h. ((d.on_exact p h).0, ap turn (d.on_exact p h).1);
}

-- a call that does the same as another
pub alike : {A : Type 0} (f g : Plain → Plain × A) (t t' : Tables) (r : A) → ((p : Plain) → f p ≡ g p) → Does f t t' r → Does g t t' r
alike f g t t' r e d = record {
  on_any = d.on_any ∙ e (plain_of t);
  on_exact = λ p h. (subst (λ q. Represents t' q.0) (e p) (d.on_exact p h).0, (d.on_exact p h).1 ∙ ap (λ q. q.1) (e p));
}

-- ---- entries

-- an answer whose fault was turned into another and that was still accepted
pub accepted_as : {A E D : Type 0} (o : Result A E) (v : Result A D) (x : A) → v ≡ Ok x → is_ok v ≡ is_ok o → (y : A) × (o ≡ Ok y)
accepted_as (Ok y) v x e same = (y, refl)
accepted_as (Err f) v x e same = absurd (true≢false (rw e at same))

-- what enter did, beside its line
pub enter_located : (records words line n : ℕ) (e : Event) (t t' : Tables) → Does (enter_plain records words e) t t' (Ok n) → Does (λ p. located line (enter_plain records words e p)) t t' (Ok tt)
enter_located records words line n e t t' d =
    turned (enter_plain records words e)
    (λ (o : Result ℕ Fault). elim o as (λ _. Result (Unit {0}) Located) [ Ok _ ↦ Ok tt | Err f ↦ Err (record { fault = f; line = line }) ]) t t' (Ok n) d

-- what tie did, beside its line
pub tie_located : (records words line number : ℕ) (r : Relation) (a b : ℕ) (t t' : Tables) (u : Unit {0}) → number ≡ relation_number r
    → Does (tie_plain records words number a b) t t' (Ok u) → Does (λ p. located line (tie_plain records words (relation_number r) a b p)) t t' (Ok tt)
tie_located records words line number r a b t t' u e d =
    turned (tie_plain records words (relation_number r) a b)
    (λ (o : Result (Unit {0}) Fault). elim o as (λ _. Result (Unit {0}) Located) [ Ok _ ↦ Ok tt | Err f ↦ Err (record { fault = f; line = line }) ]) t t' (Ok u)
    (subst (λ k. Does (tie_plain records words k a b) t t' (Ok u)) e d)

-- a tie is written among the first 384 words
pub tie_tail : (records words number : ℕ) (r : Relation) (a b : ℕ) (t t' : Tables) (u : Unit {0}) → number ≡ relation_number r → t.count ≤ 64
    → Does (tie_plain records words number a b) t t' (Ok u) → Written (word_at number a) (adding b) t.words t'.words (Ok u)
    → drop 384 t'.words ≡ drop 384 t.words
tie_tail records words number r a b t t' u e room d wrote =
    let known = tie_accepted records words r a b (plain_of t) (ap (λ k. (tie_plain records words k a b (plain_of t)).1) (sym e) ∙ ap (λ q. q.1) (sym d.on_any)) in
    let range = number_range r in
    let few : length (take t.count t.records) ≤ t.count = subst (λ n. n ≤ t.count) (sym (length-take t.count t.records)) (omega arith) in
    ap (drop 384) wrote.1 ∙ drop-set-lt 384 t.words (word_at number a) wrote.0 (omega (arith, known.first, e))

-- ---- lines that make an entry

-- a located answer, as the step passes it up
abbrev pub passed_up : Reader → Result (Unit {0}) Located → Result Reader TextFault
passed_up t (Ok _) = Ok t
passed_up t (Err l) = Err (Entry l.fault l.line)

same_answer : {A : Type 0} (s t : Reader) (o : Result A Fault)
    → passed_up t (elim o as (λ _. Result (Unit {0}) Located) [ Ok _ ↦ Ok tt | Err f ↦ Err (record { fault = f; line = s.line }) ]) ≡ answered s t o
same_answer s t (Ok _) = refl
same_answer s t (Err f) = refl

-- an entry that is made once a test is passed
entry_does : {A : Type 0} (call : Plain → Plain × Result A Fault) (s n : Reader) (t t' : Tables) (o : Result (Unit {0}) Located)
    → Does (λ p. located s.line (call p)) t t' o → Does (λ p. entry s n (call p)) t t' (passed_up n o)
entry_does call s n t t' o d =
    alike (λ p. ((call p).0, passed_up n (located s.line (call p)).1)) (λ p. entry s n (call p)) t t' (passed_up n o)
    (λ p. ap (λ (a : Result Reader TextFault). ((call p).0, a)) (same_answer s n (call p).1))
    (turned (λ p. located s.line (call p)) (passed_up n) t t' o d)

pub event_does : (records words : ℕ) (s : Reader) (k : Sort) (thread place : ℕ) (e : Event) (t t' : Tables) (o : Result (Unit {0}) Located) → (s.left ≡ 0 → ⊥) → e ≡ record_of k thread place
    → Does (λ p. located s.line (enter_plain records words e p)) t t' o
    → (r : Result Reader TextFault) → r ≡ passed_up (moved s InEvents (s.left - 1) 0) o → Does (event_step records words s k thread place) t t' r
event_does records words s k thread place e t t' o left same d r answer =
    let next = moved s InEvents (s.left - 1) 0 in
    rw answer (alike (λ p. entry s next (enter_plain records words e p)) (event_step records words s k thread place) t t' (passed_up next o)
    (λ p. ap (λ d. entry s next (enter_plain records words d p)) same ∙ sym (cond-false (eqb s.left 0) (unfit s p) _ (ne_eqb s.left 0 left)))
    (entry_does (enter_plain records words e) s next t t' o d))

pub tie_does : (records words : ℕ) (s : Reader) (r : Relation) (a b : ℕ) (t t' : Tables) (o : Result (Unit {0}) Located) → (s.left ≡ 0 → ⊥) → s.least ≤ rank r a b
    → Does (λ p. located s.line (tie_plain records words (relation_number r) a b p)) t t' o
    → (v : Result Reader TextFault) → v ≡ passed_up (moved s InTies (s.left - 1) (rank r a b + 1)) o → Does (tie_step records words s r a b) t t' v
tie_does records words s r a b t t' o left order d v answer =
    let next = moved s InTies (s.left - 1) (rank r a b + 1) in
    rw answer (alike (λ p. entry s next (tie_plain records words (relation_number r) a b p)) (tie_step records words s r a b) t t' (passed_up next o)
    (λ p. sym (cond-false (eqb s.left 0) (unfit s p) _ (ne_eqb s.left 0 left) ∙ cond-false (ltb (rank r a b) s.least) _ _ (le-ltb (rank r a b) s.least order)))
    (entry_does (tie_plain records words (relation_number r) a b) s next t t' o d))

-- a tie line that is out of order
pub tie_misordered : (records words : ℕ) (s : Reader) (r : Relation) (a b : ℕ) (t : Tables) → (s.left ≡ 0 → ⊥) → rank r a b < s.least
    → Does (tie_step records words s r a b) t t (Err (text_fault LineOrder s.line))
tie_misordered records words s r a b t left order =
    leaves (tie_step records words s r a b) t (Err (text_fault LineOrder s.line))
    (λ p. cond-false (eqb s.left 0) (unfit s p) _ (ne_eqb s.left 0 left) ∙ cond-true (ltb (rank r a b) s.least) _ _ (lt-ltb (rank r a b) s.least order))

-- ---- bytes of a line

pub line_does : (records words : ℕ) (s : Reader) (bs : List ℕ) (l : Line) (t t' : Tables) (r : Result Reader TextFault) → Some l ≡ line_of bs
    → Does (in_section s.section l records words s) t t' r → Does (line_step records words s bs) t t' r
unfolding line_step
line_does records words s bs l t t' r e d =
    alike (in_section s.section l records words s) (line_step records words s bs) t t' r
    (λ p. ap (λ (o : Option Line). elim o as (λ _. Step) [ None ↦ unfit s p | Some k ↦ in_section s.section k records words s p ]) e) d

pub line_unfit : (records words : ℕ) (s : Reader) (bs : List ℕ) (t : Tables) → None ≡ line_of bs → Does (line_step records words s bs) t t (Err (text_fault LineForm s.line))
unfolding line_step
line_unfit records words s bs t e =
    leaves (line_step records words s bs) t (Err (text_fault LineForm s.line))
    (λ p. ap (λ (o : Option Line). elim o as (λ _. Step) [ None ↦ unfit s p | Some k ↦ in_section s.section k records words s p ]) (sym e))
