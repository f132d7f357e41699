-- The line that bytes spell is the one line with that spelling.
use Rattle.std.proofs.Common.{◌≡◌, ℕ, ◌<◌, Bool, true, false, cond, List, Some, None, codes, decimal, Option, sym, refl, ap, ◌∙◌, subst, ap₂, arith}
use Rattle.std.proofs.lemmas.Option.{none-some}
use Rattle.std.specs.Str.{bytes_eq}
use Rattle.executions.specs.declared.sorts.Sort.{Sort}
use Rattle.executions.specs.declared.ties.Relation.{Relation}
use Rattle.executions.specs.declared.ties.Relation.TheVariants.{Rf, Co, Addr, Data, Ctrl, Rmw}
use Rattle.executions.specs.Ties.{relations, relation_name}
use Rattle.caselines.specs.declared.lines.Letter.{Letter}
use Rattle.caselines.specs.declared.lines.Letter.TheVariants.{Read, Write, Fence}
use Rattle.caselines.specs.declared.lines.Line.{Line}
use Rattle.caselines.specs.declared.lines.Line.TheVariants.{Events, Event, Ties, Tie}
use Rattle.caselines.specs.Fields.{then, cut, number_of, called}
use Rattle.caselines.specs.Lines.{letter, mark, letters, letter_name, sorts_of, spaced, placed, spelled, Place, Plain, access_from, event_from, tie_from, line_from, line_of, Named}
use Rattle.caselines.proofs.Cutting.{absent, cut_append, cut_halves}
use Rattle.caselines.proofs.Numbering.{number_decimal, number_written, absent_decimal}
use Rattle.caselines.proofs.Wording.{same_word, called_name, sort_letter, mark_found, mark_clear, letter_clear, name_clear}

-- ---- from bytes to a line

-- what a step gives comes from what the step before gave
pub record Came {A B : Type 0} (o : Option A) (f : A → Option B) (y : B) : Type 0 where
  pub from : A
  pub before : o ≡ Some from
  pub after : f from ≡ Some y

came : {A B : Type 0} (o : Option A) (f : A → Option B) (y : B) → then o f ≡ Some y → Came o f y
came None f y e = absurd (none-some _ e)
came (Some x) f y e = record { from = x; before = refl; after = e }

-- a rest of a line, behind a front, says the line l
pub record Says (bs : List ℕ) (l : Line) : Type 0 where
  pub whole : bs ≡ spelled l
  pub plain : Plain l

-- the last fields are a number
counted : (kind : ℕ → Line) (w bs : List ℕ) (l : Line) → ((n : ℕ) → n < 100000 → Says (spaced w (decimal n)) (kind n)) → then (number_of bs) (λ n. Some (kind n)) ≡ Some l
    → Says (spaced w bs) l
counted kind w bs l says e =
    let c = came (number_of bs) (λ n. Some (kind n)) l e in
    let written = number_written bs c.from c.before in
    let same : kind c.from ≡ l = cc in
    subst (λ k. Says (spaced w bs) k) same (subst (λ d. Says (spaced w d) (kind c.from)) (sym written.digits) (says c.from written.small))

tie_says : (r : Relation) (bs : List ℕ) (l : Line) → tie_from r bs ≡ Some l → Says (spaced (relation_name r) bs) l
unfolding spelled
tie_says r bs l e =
    let c = came (cut 32 bs) _ l e in
    let halves = cut_halves 32 bs c.from.0 c.from.1 c.before in
    let d = came (number_of c.from.0) _ l c.after in
    let first = number_written c.from.0 d.from d.before in
    let f = came (number_of c.from.1) _ l d.after in
    let second = number_written c.from.1 f.from f.before in
    let same : Tie r d.from f.from ≡ l = cc in
    rw (← same) (record {
      whole = ap (spaced (relation_name r)) (halves.whole ∙ ap₂ spaced first.digits second.digits);
      plain = (first.small, second.small);
    })

access_says : (l : Letter) (t : ℕ) (bs : List ℕ) (k : Line) → ((w : List ℕ) (n : ℕ) → placed l w n ≡ spaced w (decimal n)) → ((n : ℕ) → n < 100000 → Place l n) → t < 100000
    → access_from l t bs ≡ Some k → Says (spaced (letter_name l) (spaced (decimal t) bs)) k
unfolding spelled
access_says l t bs k ends fit small e =
    let c = came (cut 32 bs) _ k e in
    let halves = cut_halves 32 bs c.from.0 c.from.1 c.before in
    let d = came (called mark (sorts_of l) c.from.0) _ k c.after in
    let word = called_name mark (sorts_of l) c.from.0 d.from d.before in
    let same_letter = sort_letter l c.from.0 d.from d.before in
    let f = came (number_of c.from.1) _ k d.after in
    let place = number_written c.from.1 f.from f.before in
    let same : Event d.from t f.from ≡ k = cc in
    rw (← same) (record {
      whole =
          ap (λ b. spaced (letter_name l) (spaced (decimal t) b)) (halves.whole ∙ ap₂ spaced word place.digits ∙ sym (ends (mark d.from) f.from))
          ∙ ap (λ q. spaced (letter_name q) (spaced (decimal t) (placed q (mark d.from) f.from))) (sym same_letter);
      plain = (small, subst (λ q. Place q f.from) (sym same_letter) (fit f.from place.small));
    })

event_says : (l : Letter) (t : ℕ) (bs : List ℕ) (k : Line) → t < 100000 → event_from l t bs ≡ Some k → Says (spaced (letter_name l) (spaced (decimal t) bs)) k
unfolding spelled
event_says Read t bs k small e = access_says Read t bs k (λ w n. refl) (λ n h. h) small e
event_says Write t bs k small e = access_says Write t bs k (λ w n. refl) (λ n h. h) small e
event_says Fence t bs k small e =
    let d = came (called mark (sorts_of Fence) bs) _ k e in
    let word = called_name mark (sorts_of Fence) bs d.from d.before in
    let same_letter = sort_letter Fence bs d.from d.before in
    let same : Event d.from t 0 ≡ k = cc in
    rw (← same) (record {
      whole =
          ap (λ b. spaced (letter_name Fence) (spaced (decimal t) b)) word
          ∙ ap (λ q. spaced (letter_name q) (spaced (decimal t) (placed q (mark d.from) 0))) (sym same_letter);
      plain = (small, subst (λ q. Place q 0) (sym same_letter) refl);
    })

threaded : (l : Letter) (bs : List ℕ) (k : Line) → then (cut 32 bs) (λ p. then (number_of p.0) (λ t. event_from l t p.1)) ≡ Some k → Says (spaced (letter_name l) bs) k
threaded l bs k e =
    let c = came (cut 32 bs) _ k e in
    let halves = cut_halves 32 bs c.from.0 c.from.1 c.before in
    let d = came (number_of c.from.0) _ k c.after in
    let thread = number_written c.from.0 d.from d.before in
    let says = event_says l d.from c.from.1 k thread.small d.after in
    record {
      whole = ap (spaced (letter_name l)) (halves.whole ∙ ap (λ f. spaced f c.from.1) thread.digits) ∙ says.whole;
      plain = says.plain;
    }

worded : (w bs : List ℕ) (k : Line) → line_from w bs ≡ Some k → Says (spaced w bs) k
unfolding spelled
worded w bs k e = by_events (bytes_eq w (codes "events")) refl (bytes_eq w (codes "ties")) refl (called letter_name letters w) refl e
  where
    by_events : (t : Bool) → bytes_eq w (codes "events") ≡ t → (u : Bool) → bytes_eq w (codes "ties") ≡ u → (o : Option Letter) → called letter_name letters w ≡ o
        → cond t (then (number_of bs) (λ n. Some (Events n))) (cond u (then (number_of bs) (λ n. Some (Ties n)))
        (elim o as (λ _. Option Line) [ Some l ↦ then (cut 32 bs) (λ p. then (number_of p.0) (λ t. event_from l t p.1)) | None ↦ then (called relation_name relations w) (λ r. tie_from r bs) ])) ≡ Some k
        → Says (spaced w bs) k
    by_events true q u r o s h =
        subst (λ v. Says (spaced v bs) k) (sym (same_word w (codes "events") q)) (counted Events (codes "events") bs k (λ n small. record { whole = refl; plain = small }) h)
    by_events false q true r o s h =
        subst (λ v. Says (spaced v bs) k) (sym (same_word w (codes "ties") r)) (counted Ties (codes "ties") bs k (λ n small. record { whole = refl; plain = small }) h)
    by_events false q false r (Some l) s h =
        subst (λ v. Says (spaced v bs) k) (sym (called_name letter_name letters w l s)) (threaded l bs k h)
    by_events false q false r None s h =
        let c = came (called relation_name relations w) _ k h in
        subst (λ v. Says (spaced v bs) k) (sym (called_name relation_name relations w c.from c.before)) (tie_says c.from bs k c.after)

pub line_says : (bs : List ℕ) (k : Line) → line_of bs ≡ Some k → Says bs k
unfolding line_of
line_says bs k e =
    let c = came (cut 32 bs) _ k e in
    let halves = cut_halves 32 bs c.from.0 c.from.1 c.before in
    subst (λ b. Says b k) (sym halves.whole) (worded c.from.0 c.from.1 k c.after)

-- ---- from a line to its bytes and back

-- a field is cut off
field : {B : Type 0} (a b : List ℕ) (f : List ℕ × List ℕ → Option B) → absent 32 a ≡ true → then (cut 32 (spaced a b)) f ≡ f (a, b)
field a b f clear = ap (λ o. then o f) (cut_append 32 a b clear)

spaceless : (n : ℕ) → n < 100000 → absent 32 (decimal n) ≡ true
spaceless n h = absent_decimal 32 n refl (omega arith)

numbered : {B : Type 0} (n : ℕ) (f : ℕ → Option B) → n < 100000 → then (number_of (decimal n)) f ≡ f n
numbered n f h = ap (λ o. then o f) (number_decimal n h)

tie_word : (r : Relation) (bs : List ℕ) → line_from (relation_name r) bs ≡ tie_from r bs
tie_word Rf bs = refl
tie_word Co bs = refl
tie_word Addr bs = refl
tie_word Data bs = refl
tie_word Ctrl bs = refl
tie_word Rmw bs = refl

letter_word : (l : Letter) (bs : List ℕ) → line_from (letter_name l) bs ≡ then (cut 32 bs) (λ p. then (number_of p.0) (λ t. event_from l t p.1))
letter_word Read bs = refl
letter_word Write bs = refl
letter_word Fence bs = refl

access_back : (l : Letter) (s : Sort) (t n : ℕ) → called mark (sorts_of l) (mark s) ≡ Some s → n < 100000 → access_from l t (spaced (mark s) (decimal n)) ≡ Some (Event s t n)
access_back l s t n found h =
    field (mark s) (decimal n) _ (mark_clear s).0 ∙ ap (λ o. then o (λ q. then (number_of (decimal n)) (λ m. Some (Event q t m)))) found ∙ numbered n _ h

event_back : (l : Letter) (s : Sort) (t n : ℕ) → called mark (sorts_of l) (mark s) ≡ Some s → Place l n → event_from l t (placed l (mark s) n) ≡ Some (Event s t n)
event_back Read s t n found h = access_back Read s t n found h
event_back Write s t n found h = access_back Write s t n found h
event_back Fence s t n found h = ap (λ o. then o (λ q. Some (Event q t 0))) found ∙ ap (λ m. Some (Event s t m)) (sym h)

pub line_back : (k : Line) → Plain k → line_of (spelled k) ≡ Some k
unfolding spelled line_of
line_back (Events n) h = field (codes "events") (decimal n) (λ p. line_from p.0 p.1) refl ∙ numbered n (λ m. Some (Events m)) h
line_back (Ties n) h = field (codes "ties") (decimal n) (λ p. line_from p.0 p.1) refl ∙ numbered n (λ m. Some (Ties m)) h
line_back (Event s t n) h =
    field (letter_name (letter s)) _ (λ p. line_from p.0 p.1) (letter_clear (letter s)).0
    ∙ letter_word (letter s) _
    ∙ field (decimal t) _ (λ p. then (number_of p.0) (λ u. event_from (letter s) u p.1)) (spaceless t h.0)
    ∙ numbered t (λ u. event_from (letter s) u (placed (letter s) (mark s) n)) h.0
    ∙ event_back (letter s) s t n (mark_found s) h.1
line_back (Tie r a b) h =
    field (relation_name r) _ (λ p. line_from p.0 p.1) (name_clear r).0
    ∙ tie_word r _
    ∙ field (decimal a) (decimal b) (λ p. then (number_of p.0) (λ f. then (number_of p.1) (λ g. Some (Tie r f g)))) (spaceless a h.0)
    ∙ numbered a (λ f. then (number_of (decimal b)) (λ g. Some (Tie r f g))) h.0
    ∙ numbered b (λ g. Some (Tie r a g)) h.1

-- the answer of line_of is the one line
pub line_named : (bs : List ℕ) → Named bs (line_of bs)
line_named bs = record {
  spells = λ l e. let s = line_says bs l e in (s.whole, s.plain);
  only = λ l h e. ap line_of e ∙ line_back l h;
}
