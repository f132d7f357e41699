-- The text of a case is accepted, and gives the case.
use Rattle.std.proofs.Common.{◌≡◌, ℕ, zero, suc, ◌+◌, ◌-◌, ◌/◌, ◌%◌, ◌<◌, ◌≤◌, min, Bool, true, false, cond, not, ◌&&◌, ◌||◌, eqb, ltb, leb, ◌⊎◌, List, [], ◌∷◌, ◌++◌, length, Some, None, Ok, codes, decimal, Option, sym, refl, ap, ◌∙◌, subst, ap₂, subst₂, inl, inr, ⊎_elim, add-one, arith}
use mathlib.Core.Path.{fun_ext}
use Rattle.std.specs.List.{flat_map, AllByRecursion}
use Rattle.std.proofs.lemmas.List.{append-nil, append_assoc, length-append, length_push}
use Rattle.std.proofs.lemmas.Bool.{and_parts, and_from, or_cases, or_from, eqb-true, eqb-false, eq-eqb, ne_eqb, leb-true, lt-leb, lt-ltb, le-ltb, ltb-true, cases_eq, cases_lt, cases_Bool, cond-false, cond-true, both_ways, and_right}
use Rattle.rows.specs.Row.{any}
use Rattle.rows.proofs.Any.{any_some}
use Rattle.executions.specs.declared.events.Event.{Event as Record}
use Rattle.executions.specs.declared.sorts.Sort.{Sort}
use Rattle.executions.specs.declared.sorts.Sort.TheVariants.{ReadOnce, ReadAcquire, WriteOnce, WriteRelease, Rmb, Wmb, Mb, RbDep, RcuLock, RcuUnlock, SyncRcu, Blank}
use Rattle.executions.specs.declared.ties.Relation.{Relation}
use Rattle.executions.specs.declared.ties.Relation.TheVariants.{Rf, Co, Addr, Data, Ctrl, Rmw}
use Rattle.executions.specs.Events.{in_range, is_read, is_write, is_fence, is_initial, has_place, in_program}
use Rattle.executions.specs.Execution.{Execution, count, event_at}
use Rattle.executions.specs.Sorts.{numbered, sorts, sort_number, sort_of}
use Rattle.executions.specs.Ties.{relation_number, relation_name, fits}
use Rattle.executions.proofs.Numbers.{numbered_found}
use Rattle.executions.proofs.Words.{number_range}
use Rattle.tables.specs.Plain.{Plain, Open, blank, short, entered, enter_plain, full, taken, pair, tied, tie_plain}
use Rattle.caselines.specs.declared.lines.Letter.{Letter}
use Rattle.caselines.specs.declared.lines.Letter.TheVariants.{Read, Write, Fence}
use Rattle.caselines.specs.declared.lines.Line.{Line}
use Rattle.caselines.specs.declared.lines.Line.TheVariants.{Events, Event, Ties, Tie}
use Rattle.caselines.specs.Lines.{letter, mark, letter_name, spaced, placed, spelled, Place, Plain as Numbered}
use Rattle.caselines.proofs.Cutting.{absent, absent_append}
use Rattle.caselines.proofs.Numbering.{absent_decimal}
use Rattle.caselines.proofs.Wording.{mark_clear, letter_clear, name_clear}
use Rattle.caselines.proofs.Spelling.{line_back}
use Rattle.casetext.specs.declared.kinds.Reader.{Reader}
use Rattle.casetext.specs.declared.kinds.Section.{Section}
use Rattle.casetext.specs.declared.kinds.Section.TheVariants.{Start, InEvents, InTies}
use Rattle.casetext.specs.Text.{event_lines, tie_lines, ties_below, ties_in, line, text_of}
use Rattle.casetext.specs.Reading.{Step, moved, unfit, entry, record_of, rank, event_step, tie_step, in_section, line_step, start, done, finish, onward, scan}
use Rattle.casetext.specs.Entered.{Case, Stands}
use Rattle.casetext.proofs.Accepting.{tie_row}
use Rattle.casetext.proofs.Scanning.{scan_line}
use Rattle.casetext.proofs.Listing.{key, key_below, rank_key, line_if, tie_at, tie_at_key, line_one, lines_more, listed_length}
use Rattle.casetext.proofs.Building.{Same, pair_same}
use Rattle.casetext.proofs.Backward.{range_small}

-- ---- lines have no byte 10 inside

clear_number : (n : ℕ) → n < 100000 → absent 10 (decimal n) ≡ true
clear_number n h = absent_decimal 10 n refl (omega arith)

clear_spaced : (a b : List ℕ) → absent 10 a ≡ true → absent 10 b ≡ true → absent 10 (spaced a b) ≡ true
clear_spaced a b p q = absent_append 10 a (32 ∷ b) p q

clear_placed : (l : Letter) (w : List ℕ) (n : ℕ) → absent 10 w ≡ true → Place l n → absent 10 (placed l w n) ≡ true
clear_placed Read w n p h = clear_spaced w (decimal n) p (clear_number n h)
clear_placed Write w n p h = clear_spaced w (decimal n) p (clear_number n h)
clear_placed Fence w n p h = p

clear_line : (l : Line) → Numbered l → absent 10 (spelled l) ≡ true
unfolding spelled
clear_line (Events n) h = clear_spaced (codes "events") (decimal n) refl (clear_number n h)
clear_line (Event s t n) h =
    clear_spaced (letter_name (letter s)) _ (letter_clear (letter s)).1
    (clear_spaced (decimal t) _ (clear_number t h.0) (clear_placed (letter s) (mark s) n (mark_clear s).1 h.1))
clear_line (Ties n) h = clear_spaced (codes "ties") (decimal n) refl (clear_number n h)
clear_line (Tie r a b) h =
    clear_spaced (relation_name r) _ (name_clear r).1 (clear_spaced (decimal a) (decimal b) (clear_number a h.0) (clear_number b h.1))

pub joined_append : {X A : Type 0} (f : X → List A) (xs ys : List X) → flat_map f (xs ++ ys) ≡ flat_map f xs ++ flat_map f ys
joined_append f [] ys = refl
joined_append f (x ∷ xs) ys = ap (λ l. f x ++ l) (joined_append f xs ys) ∙ sym (append_assoc (f x) (flat_map f xs) (flat_map f ys))

-- ---- which number is a sort

numbered_none : {E : Type 0} (number : E → ℕ) (es : List E) (n : ℕ) → numbered number es n ≡ None → AllByRecursion (λ e. n ≡ number e → ⊥) es
numbered_none number [] n h = tt
numbered_none number (e ∷ es) n h = go (eqb n (number e)) refl h (numbered_none number es n)
  where
    go : (t : Bool) → eqb n (number e) ≡ t → cond t (Some e) (numbered number es n) ≡ None → (numbered number es n ≡ None → AllByRecursion (λ d. n ≡ number d → ⊥) es)
        → (n ≡ number e → ⊥) × AllByRecursion (λ d. n ≡ number d → ⊥) es
    go true q k later = let z : ◌≡◌ {A = ℕ} 0 1 = cc in absurd (omega arith)
    go false q k later = (eqb-false n (number e) q, later k)

pub record Sorted (n : ℕ) : Type 0 where
  pub sort : Sort
  pub found : sort_of n ≡ Some sort

sorted : (n : ℕ) → 1 ≤ n → n ≤ 12 → Sorted n
sorted n h k = go (sort_of n) refl
  where
    go : (o : Option Sort) → sort_of n ≡ o → Sorted n
    go (Some s) e = record { sort = s; found = e }
    go None e =
        let a = numbered_none sort_number sorts n e in
        let b = a.1 in let c = b.1 in let d = c.1 in let f = d.1 in let g = f.1 in let i = g.1 in let j = i.1 in let l = j.1 in let m = l.1 in let p = m.1 in let q = p.1 in
        absurd (omega (arith, a.0, b.0, c.0, d.0, f.0, g.0, i.0, j.0, l.0, m.0, p.0, q.0))

-- the sort of an event, and that its place goes with it
pub record Placed (e : Record) : Type 0 where
  pub sort : Sort
  pub found : sort_of e.sort ≡ Some sort
  pub place : Place (letter sort) e.place

fence_place : (e : Record) → in_range e ≡ true → 5 ≤ e.sort → e.place ≡ 0
fence_place e h high = ⊎_elim access fence (or_cases ((is_read e || is_write e) && (has_place e && (in_program e || is_initial e))) (is_fence e && (eqb e.place 0 && in_program e)) h)
  where
    low : (n m : ℕ) → m ≤ 4 → 5 ≤ n → eqb n m ≡ true → ⊥
    low n m k g q = let same = eqb-true n m q in omega arith

    access : ((is_read e || is_write e) && (has_place e && (in_program e || is_initial e))) ≡ true → e.place ≡ 0
    access k =
        absurd (⊎_elim
        (λ r. ⊎_elim (low e.sort 1 (omega arith) high) (low e.sort 2 (omega arith) high) (or_cases (eqb e.sort 1) (eqb e.sort 2) r))
        (λ w. ⊎_elim (low e.sort 3 (omega arith) high) (low e.sort 4 (omega arith) high) (or_cases (eqb e.sort 3) (eqb e.sort 4) w))
        (or_cases (is_read e) (is_write e) (and_parts (is_read e || is_write e) _ k).0))

    fence : (is_fence e && (eqb e.place 0 && in_program e)) ≡ true → e.place ≡ 0
    fence k = eqb-true e.place 0 (and_parts (eqb e.place 0) (in_program e) (and_parts (is_fence e) _ k).1).0

sort_range : (e : Record) → in_range e ≡ true → (1 ≤ e.sort) × (e.sort ≤ 12)
sort_range e h = ⊎_elim access fence (or_cases ((is_read e || is_write e) && (has_place e && (in_program e || is_initial e))) (is_fence e && (eqb e.place 0 && in_program e)) h)
  where
    one : (n m : ℕ) → 1 ≤ m → m ≤ 12 → eqb n m ≡ true → (1 ≤ n) × (n ≤ 12)
    one n m g k q = let same = eqb-true n m q in (omega arith, omega arith)

    access : ((is_read e || is_write e) && (has_place e && (in_program e || is_initial e))) ≡ true → (1 ≤ e.sort) × (e.sort ≤ 12)
    access k =
        ⊎_elim
        (λ r. ⊎_elim (one e.sort 1 (omega arith) (omega arith)) (one e.sort 2 (omega arith) (omega arith)) (or_cases (eqb e.sort 1) (eqb e.sort 2) r))
        (λ w. ⊎_elim (one e.sort 3 (omega arith) (omega arith)) (one e.sort 4 (omega arith) (omega arith)) (or_cases (eqb e.sort 3) (eqb e.sort 4) w))
        (or_cases (is_read e) (is_write e) (and_parts (is_read e || is_write e) _ k).0)

    fence : (is_fence e && (eqb e.place 0 && in_program e)) ≡ true → (1 ≤ e.sort) × (e.sort ≤ 12)
    fence k =
        let parts = and_parts (leb 5 e.sort) (leb e.sort 12) (and_parts (is_fence e) _ k).0 in
        (omega (arith, leb-true 5 e.sort parts.0), leb-true e.sort 12 parts.1)

place_of : (k : Sort) (n : ℕ) → n < 100000 → (5 ≤ sort_number k → n ≡ 0) → Place (letter k) n
place_of ReadOnce n h f = h
place_of ReadAcquire n h f = h
place_of WriteOnce n h f = h
place_of WriteRelease n h f = h
place_of Rmb n h f = f (omega arith)
place_of Wmb n h f = f (omega arith)
place_of Mb n h f = f (omega arith)
place_of RbDep n h f = f (omega arith)
place_of RcuLock n h f = f (omega arith)
place_of RcuUnlock n h f = f (omega arith)
place_of SyncRcu n h f = f (omega arith)
place_of Blank n h f = f (omega arith)

sort_same : (e : Record) (k : Sort) → sort_of e.sort ≡ Some k → sort_number k ≡ e.sort
sort_same e k h = numbered_found sort_number sorts e.sort k h

placed_event : (e : Record) → in_range e ≡ true → Placed e
placed_event e h =
    let range = sort_range e h in
    let k = sorted e.sort range.0 range.1 in
    let small = range_small e h in
    record {
      sort = k.sort;
      found = k.found;
      place = place_of k.sort e.place (omega arith) (λ high. fence_place e h (subst (λ (n : ℕ). 5 ≤ n) (sort_same e k.sort k.found) high));
    }

-- ---- from one line to the next

module _ (records words : ℕ) (long : short records words ≡ false) where
  -- some bytes lead from one reader and case to another
  abbrev Leads : Reader → Plain → List ℕ → Reader → Plain → Type 0
  Leads s p bs t q = (rest : List ℕ) → scan records words s p [] (bs ++ rest) ≡ scan records words t q [] rest

  both : (s : Reader) (p : Plain) (bs : List ℕ) (t : Reader) (q : Plain) (cs : List ℕ) (u : Reader) (v : Plain) → Leads s p bs t q → Leads t q cs u v → Leads s p (bs ++ cs) u v
  both s p bs t q cs u v f g rest = ap (scan records words s p []) (append_assoc bs cs rest) ∙ f (cs ++ rest) ∙ g rest

  -- a line
  one : (s : Reader) (p : Plain) (l : Line) (t : Reader) (q : Plain) → Numbered l → in_section s.section l records words s p ≡ (q, Ok t) → Leads s p (line l) t q
  unfolding line_step
  one s p l t q small e rest =
      ap (scan records words s p []) (append_assoc (spelled l) (10 ∷ []) rest)
      ∙ scan_line records words s p (spelled l) rest (clear_line l small)
      ∙ ap (λ (k : Step). onward k (λ u v. scan records words u v [] rest))
      (ap (λ (o : Option Line). elim o as (λ _. Step) [ None ↦ unfit s p | Some k ↦ in_section s.section k records words s p ]) (line_back l small) ∙ e)

  -- ---- events

  accepted : (e : Record) (p : Plain) → count p.execution < 64 → in_range e ≡ true → enter_plain records words e p ≡ (entered e p, Ok (count p.execution))
  accepted e p room range =
      cond-false (short records words) _ _ long ∙ cond-false (leb 64 (count p.execution)) _ _ (lt-leb 64 (count p.execution) room) ∙ cond-false (not (in_range e)) _ _ (ap not range)

  -- the reader after an event
  abbrev after_event : Reader → Reader
  after_event s = moved s InEvents (s.left - 1) 0

  same_record : (e : Record) (k : Sort) → in_range e ≡ true → sort_of e.sort ≡ Some k → record_of k e.thread e.place ≡ e
  same_record e k range found =
      let small = range_small e range in
      let thread : min e.thread 255 ≡ e.thread = omega arith in
      let place : min e.place 255 ≡ e.place = omega arith in
      let sort = sort_same e k found in
      ap₂ (λ (i j : ℕ). record { thread = i; sort = sort_number k; place = j }) thread place
      ∙ ap (λ (n : ℕ). record { thread = e.thread; sort = n; place = e.place }) sort

  event_one : (s : Reader) (p : Plain) (e : Record) → s.section ≡ InEvents → (s.left ≡ 0 → ⊥) → count p.execution < 64 → in_range e ≡ true
      → Leads s p (flat_map line (event_lines e)) (after_event s) (entered e p)
  event_one s p e here left room range =
      let k = placed_event e range in
      let small = range_small e range in
      let step : event_step records words s k.sort e.thread e.place p ≡ (entered e p, Ok (after_event s)) =
      cond-false (eqb s.left 0) _ _ (ne_eqb s.left 0 left)
      ∙ ap (λ (d : Record). entry s (after_event s) (enter_plain records words d p)) (same_record e k.sort range k.found)
      ∙ ap (λ q. entry s (after_event s) q) (accepted e p room range) in
      let lines : flat_map line (event_lines e) ≡ line (Event k.sort e.thread e.place) =
      ap (λ (o : Option Sort). flat_map line (elim o as (λ _. List Line) [ None ↦ [] | Some q ↦ Event q e.thread e.place ∷ [] ])) k.found
      ∙ append-nil (line (Event k.sort e.thread e.place)) in
      subst (λ (b : List ℕ). Leads s p b (after_event s) (entered e p)) (sym lines)
      (one s p (Event k.sort e.thread e.place) (after_event s) (entered e p) (omega arith, k.place)
      (ap (λ (c : Section). in_section c (Event k.sort e.thread e.place) records words s p) here ∙ step))

  -- a case with some events more
  abbrev with_events : Plain → List Record → Plain
  with_events p es = record { execution = record { events = p.execution.events ++ es; ties = p.execution.ties }; mark = p.mark }

  record Reached (section : Section) (s : Reader) (p : Plain) (bs : List ℕ) (left : ℕ) (q : Plain) : Type 0 where
    reader : Reader
    here : reader.section ≡ section
    still : reader.left ≡ left
    leads : Leads s p bs reader q

  events_lead : (es : List Record) (s : Reader) (p : Plain) (left : ℕ) → s.section ≡ InEvents → s.left ≡ length es + left → count p.execution + length es ≤ 64
      → AllByRecursion (λ e. in_range e ≡ true) es → Reached InEvents s p (flat_map line (flat_map event_lines es)) left (with_events p es)
  events_lead [] s p left here still few range = record {
    reader = s;
    here = here;
    still = still ∙ (omega arith);
    leads = λ rest. ap (λ (l : List Record). scan records words s (record { execution = record { events = l; ties = p.execution.ties }; mark = p.mark }) [] rest) (sym (append-nil p.execution.events));
  }
  events_lead (e ∷ es) s p left here still few range =
      let rest = events_lead es (after_event s) (entered e p) left refl (omega arith) (omega (arith, length_push p.execution.events e)) range.1 in
      record {
        reader = rest.reader;
        here = rest.here;
        still = rest.still;
        leads =
            subst₂ (λ (b : List ℕ) (l : List Record). Leads s p b rest.reader (record { execution = record { events = l; ties = p.execution.ties }; mark = p.mark }))
            (sym (joined_append line (event_lines e) (flat_map event_lines es))) (append_assoc p.execution.events (e ∷ []) es)
            (both s p (flat_map line (event_lines e)) (after_event s) (entered e p) (flat_map line (flat_map event_lines es)) rest.reader (with_events (entered e p) es)
            (event_one s p e here (λ z. omega arith) (omega arith) range.0) rest.leads);
      }

  -- ---- ties

  module _ (x : Execution) (case : Case x) where
    -- the case with the ties of numbers below n
    abbrev part : ℕ → Plain
    part n = record { execution = record { events = x.events; ties = λ r a b. x.ties r a b && ltb (key r a b) n }; mark = Open }

    -- the tie of a number, or none
    record Found (n : ℕ) : Type 0 where
      relation : Relation
      first : ℕ
      second : ℕ
      number : n ≡ key relation first second
      tied_there : x.ties relation first second ≡ true

    at_number : (n : ℕ) → (tie_lines x n ≡ []) ⊎ Found n
    at_number n = ⊎_elim (λ e. inl e) (λ f. go f.0 f.1 f.2) (tie_at x n)
      where
        go : (r : Relation) → n ≡ key r (n / 64 % 64) (n % 64) → tie_lines x n ≡ line_if (count x) x.ties r (n / 64 % 64) (n % 64) → (tie_lines x n ≡ []) ⊎ Found n
        go r number e = ⊎_elim (λ t. inr (record { relation = r; first = n / 64 % 64; second = n % 64; number = number; tied_there = t }))
            (λ t. inl (e ∙ rw t (none (ltb (n / 64 % 64) (count x)) (ltb (n % 64) (count x)) _))) (cases_Bool (x.ties r (n / 64 % 64) (n % 64)))
          where
            none : (i j : Bool) (l : List Line) → cond (i && (j && false)) l [] ≡ []
            none true true l = refl
            none true false l = refl
            none false j l = refl

    -- the events of a tie are below 64
    low : (r : Relation) (a b : ℕ) → x.ties r a b ≡ true → (a < 64) × (b < 64)
    low r a b h = let i = case.inside r a b h in let few = case.few in (omega arith, omega arith)

    -- a number with no line has no tie
    no_tie_at : (n : ℕ) → tie_lines x n ≡ [] → (r : Relation) (a b : ℕ) → x.ties r a b ≡ true → key r a b ≡ n → ⊥
    no_tie_at n none r a b h e =
        let l = low r a b h in
        let i = case.inside r a b h in
        let some : Tie r a b ∷ [] ≡ [] =
        sym (line_one (count x) x.ties r a b i.0 i.1 h) ∙ sym (tie_at_key x r a b l.0 l.1) ∙ ap (tie_lines x) e ∙ none in
        let z : ◌≡◌ {A = ℕ} 0 1 = cc in absurd (omega arith)

    -- one number, one tie
    key_same : (r : Relation) (a b : ℕ) (q : Relation) (d e : ℕ) → a < 64 → b < 64 → d < 64 → e < 64 → key r a b ≡ key q d e → (relation_number r ≡ relation_number q) × (a ≡ d) × (b ≡ e)
    key_same r a b q d e ha hb hd he k = let n = number_range r in let m = number_range q in (omega arith, omega arith, omega arith)

    -- from n to n + 1
    part_none : (n : ℕ) → tie_lines x n ≡ [] → part n ≡ part (n + 1)
    part_none n none = ap (λ (ts : Relation → ℕ → ℕ → Bool). record { execution = record { events = x.events; ties = ts }; mark = Open })
        (fun_ext λ r. fun_ext λ a. fun_ext λ b. go r a b (x.ties r a b) refl)
      where
        go : (r : Relation) (a b : ℕ) (t : Bool) → x.ties r a b ≡ t → (t && ltb (key r a b) n) ≡ (t && ltb (key r a b) (n + 1))
        go r a b false h = refl
        go r a b true h = ⊎_elim (λ l. lt-ltb (key r a b) n l ∙ sym (lt-ltb (key r a b) (n + 1) (omega arith)))
            (λ g. le-ltb (key r a b) n g ∙ sym (le-ltb (key r a b) (n + 1) (⊎_elim (λ e. absurd (no_tie_at n none r a b h e)) (λ e. omega arith) (cases_eq (key r a b) n)))) (cases_lt (key r a b) n)

    part_tied : (n : ℕ) (r : Relation) (a b : ℕ) → n ≡ key r a b → x.ties r a b ≡ true → tied r a b (part n) ≡ part (n + 1)
    part_tied n r a b number there = ap (λ (ts : Relation → ℕ → ℕ → Bool). record { execution = record { events = x.events; ties = ts }; mark = Open })
        (fun_ext λ q. fun_ext λ d. fun_ext λ e. go q d e (x.ties q d e) refl (pair r a b q d e) refl)
      where
        same_there : (q : Relation) (d e : ℕ) → Same r a b q d e → x.ties q d e ≡ true
        same_there q d e s = rw (s.relation, s.first, s.second) there

        same_key : (q : Relation) (d e : ℕ) → Same r a b q d e → key q d e ≡ key r a b
        same_key q d e s = rw (s.relation, s.first, s.second) refl

        go : (q : Relation) (d e : ℕ) (t : Bool) → x.ties q d e ≡ t → (u : Bool) → pair r a b q d e ≡ u → ((t && ltb (key q d e) n) || u) ≡ (t && ltb (key q d e) (n + 1))
        go q d e false h true k = absurd (both_ways (x.ties q d e) h (same_there q d e (pair_same r a b q d e k)))
        go q d e false h false k = refl
        go q d e true h true k =
            let same = same_key q d e (pair_same r a b q d e k) in
            or_true (ltb (key q d e) n) ∙ sym (lt-ltb (key q d e) (n + 1) (omega arith))
          where
            or_true : (b : Bool) → (b || true) ≡ true
            or_true true = refl
            or_true false = refl
        go q d e true h false k = or-false (ltb (key q d e) n) ∙ ⊎_elim (λ l. lt-ltb (key q d e) n l ∙ sym (lt-ltb (key q d e) (n + 1) (omega arith)))
            (λ g. le-ltb (key q d e) n g ∙ sym (le-ltb (key q d e) (n + 1) (⊎_elim (λ z. absurd (other z)) (λ z. omega arith) (cases_eq (key q d e) n)))) (cases_lt (key q d e) n)
          where
            or-false : (b : Bool) → (b || false) ≡ b
            or-false true = refl
            or-false false = refl

            other : key q d e ≡ n → ⊥
            other z =
                let l = low q d e h in
                let m = low r a b there in
                let s = key_same q d e r a b l.0 l.1 m.0 m.1 (z ∙ number) in
                both_ways (pair r a b q d e) k (and_from _ _ (eq-eqb (relation_number q) (relation_number r) s.0) (and_from _ _ (eq-eqb d a s.1) (eq-eqb e b s.2)))

    -- there is room for the next tie
    part_old : (n : ℕ) (q : Relation) (d e : ℕ) → (part n).execution.ties q d e ≡ true → (x.ties q d e ≡ true) × (key q d e < n)
    part_old n q d e h = let parts = and_parts (x.ties q d e) (ltb (key q d e) n) h in (parts.0, ltb-true (key q d e) n parts.1)

    free_rf : (n a b : ℕ) → n ≡ key Rf a b → x.ties Rf a b ≡ true → full (count x) (part n).execution.ties Rf a b ≡ false
    free_rf n a b number there = ⊎_elim
        (λ h. let c = any_some (count x) (λ i. (part n).execution.ties Rf i b) h in
        let old = part_old n Rf c.0 b c.2 in
        let same = case.one_rf c.0 a b old.0 there in
        let l = old.1 in
        absurd (omega arith))
        (λ h. h) (cases_Bool (full (count x) (part n).execution.ties Rf a b))

    free_rmw : (n a b e : ℕ) → n ≡ key Rmw a b → x.ties Rmw a b ≡ true → Stands e a b → any (count x) (λ d. (part n).execution.ties Rmw e d || (part n).execution.ties Rmw d e) ≡ false
    free_rmw n a b e number there stands = ⊎_elim
        (λ h. let c = any_some (count x) (λ d. (part n).execution.ties Rmw e d || (part n).execution.ties Rmw d e) h in
        ⊎_elim
        (λ f. let old = part_old n Rmw e c.0 f in let same = case.one_rmw e c.0 a b e old.0 there (inl refl) stands in let l = old.1 in absurd (omega arith))
        (λ f. let old = part_old n Rmw c.0 e f in let same = case.one_rmw c.0 e a b e old.0 there (inr refl) stands in let l = old.1 in absurd (omega arith))
        (or_cases ((part n).execution.ties Rmw e c.0) ((part n).execution.ties Rmw c.0 e) c.2))
        (λ h. h) (cases_Bool (any (count x) (λ d. (part n).execution.ties Rmw e d || (part n).execution.ties Rmw d e)))

    free : (r : Relation) (n a b : ℕ) → n ≡ key r a b → x.ties r a b ≡ true → full (count x) (part n).execution.ties r a b ≡ false
    free Rf n a b number there = free_rf n a b number there
    free Co n a b number there = refl
    free Addr n a b number there = refl
    free Data n a b number there = refl
    free Ctrl n a b number there = refl
    free Rmw n a b number there = or_from _ _ (free_rmw n a b a number there (inl refl)) (free_rmw n a b b number there (inr refl))

    tie_accepts : (n : ℕ) (r : Relation) (a b : ℕ) → n ≡ key r a b → x.ties r a b ≡ true → tie_plain records words (relation_number r) a b (part n) ≡ (tied r a b (part n), Ok tt)
    tie_accepts n r a b number there =
        let i = case.inside r a b there in
        let here : (part n).execution.ties r a b ≡ false = rw there (le-ltb (key r a b) n (omega arith)) in
        tie_row records words r a b (part n)
        ∙ cond-false (short records words) _ _ long
        ∙ cond-false (not (ltb a (count x))) _ _ (ap not (lt-ltb a (count x) i.0))
        ∙ cond-false (not (ltb b (count x))) _ _ (ap not (lt-ltb b (count x) i.1))
        ∙ cond-false (not (fits r a (event_at x a) b (event_at x b))) _ _ (ap not (case.fit r a b there))
        ∙ cond-false (taken (count x) (part n).execution.ties r a b) _ _ (or_from ((part n).execution.ties r a b) (full (count x) (part n).execution.ties r a b) here (free r n a b number there))

    -- the reader after a tie
    abbrev after_tie : Reader → Relation → ℕ → ℕ → Reader
    after_tie s r a b = moved s InTies (s.left - 1) (rank r a b + 1)

    tie_one : (n : ℕ) (s : Reader) (r : Relation) (a b : ℕ) → s.section ≡ InTies → (s.left ≡ 0 → ⊥) → s.least ≤ rank r a b → n ≡ key r a b → x.ties r a b ≡ true
        → Leads s (part n) (line (Tie r a b)) (after_tie s r a b) (part (n + 1))
    tie_one n s r a b here left order number there =
        let l = low r a b there in
        let step : tie_step records words s r a b (part n) ≡ (part (n + 1), Ok (after_tie s r a b)) =
        cond-false (eqb s.left 0) _ _ (ne_eqb s.left 0 left)
        ∙ cond-false (ltb (rank r a b) s.least) _ _ (le-ltb (rank r a b) s.least order)
        ∙ ap (λ q. entry s (after_tie s r a b) q) (tie_accepts n r a b number there)
        ∙ ap (λ (q : Plain). (q, Ok (after_tie s r a b))) (part_tied n r a b number there) in
        one s (part n) (Tie r a b) (after_tie s r a b) (part (n + 1)) (omega arith, omega arith)
        (ap (λ (c : Section). in_section c (Tie r a b) records words s (part n)) here ∙ step)

    record Counted (n : ℕ) (s : Reader) (left : ℕ) : Type 0 where
      reader : Reader
      here : reader.section ≡ InTies
      still : reader.left ≡ left
      order : (r : Relation) (a b : ℕ) → a < 64 → b < 64 → n ≤ key r a b → reader.least ≤ rank r a b
      leads : Leads s (part 0) (flat_map line (ties_below x n)) reader (part n)

    ties_none : (n : ℕ) (s : Reader) (left : ℕ) → tie_lines x n ≡ [] → Counted n s (length (tie_lines x n) + left) → Counted (n + 1) s left
    ties_none n s left none c = record {
      reader = c.reader;
      here = c.here;
      still = c.still ∙ ap (λ (l : List Line). length l + left) none ∙ (omega arith);
      order = λ r a b h k l. c.order r a b h k (omega arith);
      leads =
          subst₂ (λ (b : List ℕ) (p : Plain). Leads s (part 0) b c.reader p)
          (ap (flat_map line) (sym (append-nil (ties_below x n)) ∙ ap (λ l. ties_below x n ++ l) (sym none) ∙ sym (lines_more x n))) (part_none n none) c.leads;
    }

    ties_some : (n : ℕ) (s : Reader) (left : ℕ) (f : Found n) → Counted n s (length (tie_lines x n) + left) → Counted (n + 1) s left
    ties_some n s left f c =
        let r = f.relation in
        let a = f.first in
        let b = f.second in
        let l = low r a b f.tied_there in
        let i = case.inside r a b f.tied_there in
        let lines : tie_lines x n ≡ Tie r a b ∷ [] =
        ap (tie_lines x) f.number ∙ tie_at_key x r a b l.0 l.1 ∙ line_one (count x) x.ties r a b i.0 i.1 f.tied_there in
        let still : c.reader.left ≡ 1 + left = c.still ∙ ap (λ (k : List Line). length k + left) lines ∙ (omega arith) in
        record {
          reader = after_tie c.reader r a b;
          here = refl;
          still = omega arith;
          order = λ q d e h k g. let above = rank_key r a b q d e l.0 l.1 h k (omega (arith, f.number)) in omega arith;
          leads =
              subst (λ (w : List ℕ). Leads s (part 0) w (after_tie c.reader r a b) (part (n + 1)))
              (ap (λ w. flat_map line (ties_below x n) ++ w) (sym (append-nil (line (Tie r a b))) ∙ ap (flat_map line) (sym lines))
              ∙ sym (joined_append line (ties_below x n) (tie_lines x n)) ∙ ap (flat_map line) (sym (lines_more x n)))
              (both s (part 0) (flat_map line (ties_below x n)) c.reader (part n) (line (Tie r a b)) (after_tie c.reader r a b) (part (n + 1)) c.leads
              (tie_one n c.reader r a b c.here (λ z. omega arith) (c.order r a b l.0 l.1 (omega (arith, f.number))) f.number f.tied_there));
        }

    ties_lead : (n : ℕ) (s : Reader) (left : ℕ) → s.section ≡ InTies → s.left ≡ length (ties_below x n) + left → s.least ≡ 0 → Counted n s left
    unfolding ties_below
    ties_lead zero s left here still least = record {
      reader = s;
      here = here;
      still = still ∙ (omega arith);
      order = λ r a b h k l. omega arith;
      leads = λ rest. refl;
    }
    ties_lead (suc n) s left here still least =
        let before = ties_lead n s (length (tie_lines x n) + left) here (still ∙ (omega (arith, length-append (ties_below x n) (tie_lines x n)))) least in
        subst (λ (k : ℕ). Counted k s left) (add-one n) (⊎_elim (λ none. ties_none n s left none before) (λ f. ties_some n s left f before) (at_number n))

    -- ---- the whole text

    abbrev whole : Plain
    whole = record { execution = x; mark = Open }

    part_zero : with_events blank x.events ≡ part 0
    part_zero = ap (λ (ts : Relation → ℕ → ℕ → Bool). record { execution = record { events = x.events; ties = ts }; mark = Open })
        (fun_ext λ r. fun_ext λ a. fun_ext λ b. sym (and_right (x.ties r a b) (ltb (key r a b) 0) (le-ltb (key r a b) 0 (omega arith))))

    part_all : part 24576 ≡ whole
    part_all = ap (λ (ts : Relation → ℕ → ℕ → Bool). record { execution = record { events = x.events; ties = ts }; mark = Open })
        (fun_ext λ r. fun_ext λ a. fun_ext λ b. go r a b (x.ties r a b) refl)
      where
        go : (r : Relation) (a b : ℕ) (t : Bool) → x.ties r a b ≡ t → (t && ltb (key r a b) 24576) ≡ t
        go r a b true h = let l = low r a b h in lt-ltb (key r a b) 24576 (key_below r a b l.0 l.1)
        go r a b false h = refl

    pub forward : scan records words start blank [] (text_of x) ≡ Ok whole
    unfolding text_of scan
    forward =
        let few = case.few in
        let m = length (ties_in x) in
        let s1 = moved start InEvents (count x) 0 in
        let events = events_lead x.events s1 blank 0 refl (omega arith) (omega arith) case.range in
        let s2 = events.reader in
        let s3 = moved s2 InTies (length (ties_in x)) 0 in
        let ties = ties_lead 24576 s3 0 refl (omega arith) refl in
        let first : Leads start blank (line (Events (count x))) s1 blank = one start blank (Events (count x)) s1 blank (omega arith) refl in
        let middle : Leads s2 (part 0) (line (Ties (length (ties_in x)))) s3 (part 0) =
        one s2 (part 0) (Ties (length (ties_in x))) s3 (part 0) (omega (arith, listed_length x 24576))
        (ap (λ (c : Section). in_section c (Ties (length (ties_in x))) records words s2 (part 0)) events.here ∙ cond-true (eqb s2.left 0) _ _ (eq-eqb s2.left 0 events.still)) in
        let upper : Leads start blank (line (Events (count x)) ++ flat_map line (flat_map event_lines x.events)) s2 (part 0) =
        subst (λ (p : Plain). Leads start blank (line (Events (count x)) ++ flat_map line (flat_map event_lines x.events)) s2 p) part_zero
        (both start blank (line (Events (count x))) s1 blank (flat_map line (flat_map event_lines x.events)) s2 (with_events blank x.events) first events.leads) in
        let lower : Leads s2 (part 0) (line (Ties (length (ties_in x))) ++ flat_map line (ties_in x)) ties.reader (part 24576) =
        both s2 (part 0) (line (Ties (length (ties_in x)))) s3 (part 0) (flat_map line (ties_in x)) ties.reader (part 24576) middle ties.leads in
        let all = both start blank (line (Events (count x)) ++ flat_map line (flat_map event_lines x.events)) s2 (part 0)
        (line (Ties (length (ties_in x))) ++ flat_map line (ties_in x)) ties.reader (part 24576) upper lower in
        ap (scan records words start blank []) (joined_append line (Events (count x) ∷ flat_map event_lines x.events) (Ties (length (ties_in x)) ∷ ties_in x) ∙ sym (append-nil _))
        ∙ all []
        ∙ ended ties.reader ties.here ties.still
        ∙ ap (λ (p : Plain). Ok p) part_all
      where
        ended : (s : Reader) → s.section ≡ InTies → s.left ≡ 0 → finish s (part 24576) [] ≡ Ok (part 24576)
        ended s here still =
            cond-true (done s && true) _ _ (and_from (done s) true
            (ap₂ (λ (c : Section) (n : ℕ). elim c as (λ _. Bool) [ Start ↦ false | InEvents ↦ false | InTies ↦ eqb n 0 ]) here still) refl)
