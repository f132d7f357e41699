-- A text that is accepted is the text of the case that was read.
use Rattle.std.proofs.Common.{◌≡◌, ℕ, ◌+◌, ◌-◌, ◌<◌, ◌≤◌, min, Bool, true, false, cond, ◌&&◌, ◌||◌, eqb, ltb, leb, List, [], ◌∷◌, ◌++◌, length, Some, None, Ok, Err, Option, Result, sym, refl, ap, ◌∙◌, subst, ap₂, subst₂, ⊎_elim, arith}
use Rattle.std.specs.List.{flat_map}
use Rattle.std.proofs.lemmas.List.{append-nil, append_assoc, length_push, flat_map_more}
use Rattle.std.proofs.lemmas.Bool.{and_parts, or_cases, eqb-true, eqb-false, leb-true, ltb-false, cases_eq, both_ways}
use Rattle.executions.specs.declared.events.Event.{Event as Record}
use Rattle.executions.specs.declared.faults.Cause.TheVariants.{LineForm, LineOrder}
use Rattle.executions.specs.declared.faults.Fault.{Fault}
use Rattle.executions.specs.declared.sorts.Sort.{Sort}
use Rattle.executions.specs.declared.sorts.Sort.TheVariants.{ReadOnce, ReadAcquire, WriteOnce, WriteRelease, Rmb, Wmb, Mb, RbDep, RcuLock, RcuUnlock, SyncRcu, Blank}
use Rattle.executions.specs.declared.ties.Relation.{Relation}
use Rattle.executions.specs.Events.{in_range, is_read, is_write, is_fence, is_initial, has_place, in_program}
use Rattle.executions.specs.Execution.{Execution, count}
use Rattle.executions.specs.Sorts.{sort_number, sort_of}
use Rattle.executions.specs.Ties.{relation_number}
use Rattle.tables.specs.Plain.{Plain, blank, entered, tied, pair, enter_plain, tie_plain}
use Rattle.caselines.specs.declared.lines.Line.{Line}
use Rattle.caselines.specs.declared.lines.Line.TheVariants.{Events, Event, Ties, Tie}
use Rattle.casetext.specs.declared.kinds.Reader.{Reader}
use Rattle.casetext.specs.declared.kinds.Section.{Section}
use Rattle.casetext.specs.declared.kinds.Section.TheVariants.{Start, InEvents, InTies}
use Rattle.casetext.specs.declared.kinds.TextFault.{TextFault}
use Rattle.casetext.specs.Text.{event_lines, ties_in, line, text_of}
use Rattle.casetext.specs.Reading.{Step, text_fault, moved, unfit, answered, entry, record_of, rank, event_step, ties_step, tie_step, in_section, line_step, start, done, empty, finish, onward, scan}
use Rattle.casetext.specs.Entered.{Case}
use Rattle.casetext.proofs.Accepting.{enter_accepted, tie_accepted, Ties as Entry}
use Rattle.casetext.proofs.Scanning.{no_reader, entry_next, took}
use Rattle.casetext.proofs.Listing.{listed, none_listed}
use Rattle.casetext.proofs.Building.{NoTies, Same, pair_same, blank_case, entered_case, tied_case}

-- ---- what was read so far

-- the lines before a reader
abbrev lines_before : Section → ℕ → Execution → List Line
lines_before Start left x = []
lines_before InEvents left x = Events (count x + left) ∷ flat_map event_lines x.events
lines_before InTies left x = (Events (count x) ∷ flat_map event_lines x.events) ++ (Ties (length (ties_in x) + left) ∷ ties_in x)

-- what is known of the case in each section
abbrev Known : Section → ℕ → Execution → Type 0
Known Start least x = (x.events ≡ []) × NoTies x
Known InEvents least x = NoTies x
Known InTies least x = (r : Relation) (a b : ℕ) → x.ties r a b ≡ true → rank r a b < least

record Sound (section : Section) (least : ℕ) (p : Plain) : Type 0 where
  case : Case p.execution
  known : Known section least p.execution

-- one line more
record More (section : Section) (left : ℕ) (p : Plain) (l : Line) (t : Reader) (q : Plain) : Type 0 where
  lines : lines_before t.section t.left q.execution ≡ lines_before section left p.execution ++ l ∷ []
  sound : Sound t.section t.least q

-- ---- an event

sort_found : (k : Sort) → sort_of (sort_number k) ≡ Some k
sort_found ReadOnce = refl
sort_found ReadAcquire = refl
sort_found WriteOnce = refl
sort_found WriteRelease = refl
sort_found Rmb = refl
sort_found Wmb = refl
sort_found Mb = refl
sort_found RbDep = refl
sort_found RcuLock = refl
sort_found RcuUnlock = refl
sort_found SyncRcu = refl
sort_found Blank = refl

-- an event has a small thread and a small place
pub range_small : (e : Record) → in_range e ≡ true → (e.thread ≤ 8) × (e.place ≤ 16)
range_small e h = ⊎_elim access fence (or_cases ((is_read e || is_write e) && (has_place e && (in_program e || is_initial e))) (is_fence e && (eqb e.place 0 && in_program e)) h)
  where
    threaded : in_program e ≡ true → e.thread ≤ 8
    threaded k = leb-true e.thread 8 (and_parts (leb 1 e.thread) (leb e.thread 8) k).1

    access : ((is_read e || is_write e) && (has_place e && (in_program e || is_initial e))) ≡ true → (e.thread ≤ 8) × (e.place ≤ 16)
    access k =
        let inner = and_parts (has_place e) (in_program e || is_initial e) (and_parts (is_read e || is_write e) _ k).1 in (
          ⊎_elim threaded (λ i. let z = eqb-true e.thread 0 (and_parts _ (eqb e.thread 0) i).1 in omega arith) (or_cases (in_program e) (is_initial e) inner.1),
          leb-true e.place 16 (and_parts (leb 1 e.place) (leb e.place 16) inner.0).1,
        )

    fence : (is_fence e && (eqb e.place 0 && in_program e)) ≡ true → (e.thread ≤ 8) × (e.place ≤ 16)
    fence k =
        let inner = and_parts (eqb e.place 0) (in_program e) (and_parts (is_fence e) _ k).1 in
        let z = eqb-true e.place 0 inner.0 in
        (threaded inner.1, omega arith)

-- the line of an event that is in range
record_line : (k : Sort) (t n : ℕ) → in_range (record_of k t n) ≡ true → event_lines (record_of k t n) ≡ Event k t n ∷ []
record_line k t n h =
    let small = range_small (record_of k t n) h in
    let thread : min t 255 ≡ t = omega (arith, small.0) in
    let place : min n 255 ≡ n = omega (arith, small.1) in
    ap (λ (o : Option Sort). elim o as (λ _. List Line) [ None ↦ [] | Some s ↦ Event s (min t 255) (min n 255) ∷ [] ]) (sort_found k)
    ∙ ap₂ (λ (i j : ℕ). Event k i j ∷ []) thread place

rank_same : (r : Relation) (a b : ℕ) (q : Relation) (d e : ℕ) → Same r a b q d e → rank q d e < rank r a b + 1
rank_same r a b q d e same = rw (same.relation, same.first, same.second) (omega arith)

entry_ok : {A : Type 0} (s n t : Reader) (o : Result A Fault) → answered s n o ≡ Ok t → (a : A) × (o ≡ Ok a)
entry_ok s n t (Ok a) e = (a, refl)
entry_ok s n t (Err f) e = absurd (no_reader _ t e)

event_more : (records words : ℕ) (s : Reader) (k : Sort) (u n : ℕ) (p : Plain) (t : Reader) → Sound InEvents s.least p → (event_step records words s k u n p).1 ≡ Ok t
    → More InEvents s.left p (Event k u n) t (event_step records words s k u n p).0
event_more records words s k u n p t sound e = go (eqb s.left 0) refl e
  where
    d : Record
    d = record_of k u n

    next : Reader
    next = moved s InEvents (s.left - 1) 0

    step : (s.left ≡ 0 → ⊥) → count p.execution < 64 → in_range (record_of k u n) ≡ true → More InEvents s.left p (Event k u n) (moved s InEvents (s.left - 1) 0) (entered (record_of k u n) p)
    step left room range =
        let x = p.execution in
        let counted : length (x.events ++ record_of k u n ∷ []) + (s.left - 1) ≡ count x + s.left = ⊎_elim (λ z. absurd (left z)) (λ z. omega (arith, length_push x.events (record_of k u n))) (cases_eq s.left 0) in
        record {
          lines =
              ap₂ (λ (m : ℕ) (l : List Line). Events m ∷ l) counted
              (sym (flat_map_more event_lines [] x.events (record_of k u n)) ∙ ap (λ l. flat_map event_lines x.events ++ l) (record_line k u n range));
          sound = record { case = entered_case x (record_of k u n) sound.case sound.known room range; known = sound.known };
        }

    go : (b : Bool) → eqb s.left 0 ≡ b → (cond b (unfit s p) (entry s (moved s InEvents (s.left - 1) 0) (enter_plain records words (record_of k u n) p))).1 ≡ Ok t
        → More InEvents s.left p (Event k u n) t (cond b (unfit s p) (entry s (moved s InEvents (s.left - 1) 0) (enter_plain records words (record_of k u n) p))).0
    go true q h = absurd (no_reader _ t h)
    go false q h =
        let ok = entry_ok s (moved s InEvents (s.left - 1) 0) t (enter_plain records words (record_of k u n) p).1 h in
        let known = enter_accepted records words (record_of k u n) p ok.0 ok.1 in
        subst₂ (λ (v : Reader) (w : Plain). More InEvents s.left p (Event k u n) v w)
        (entry_next s (moved s InEvents (s.left - 1) 0) t (enter_plain records words (record_of k u n) p).1 h) (sym known.after)
        (step (eqb-false s.left 0 q) known.room known.range)

-- ---- the count of the ties

ties_more : (s : Reader) (n : ℕ) (p : Plain) (t : Reader) → Sound InEvents s.least p → (ties_step s n p).1 ≡ Ok t → More InEvents s.left p (Ties n) t (ties_step s n p).0
ties_more s n p t sound e = go (eqb s.left 0) refl e
  where
    counted : Step
    counted = (p, Ok (moved s InTies n 0))

    step : s.left ≡ 0 → More InEvents s.left p (Ties n) (moved s InTies n 0) p
    step left =
        let x = p.execution in
        let none = none_listed x 24576 sound.known in
        record {
          lines =
              ap (λ (l : List Line). (Events (count x) ∷ flat_map event_lines x.events) ++ (Ties (length l + n) ∷ l)) none
              ∙ ap₂ (λ (i j : ℕ). (Events i ∷ flat_map event_lines x.events) ++ Ties j ∷ []) (omega arith) (omega arith);
          sound = record { case = sound.case; known = λ r a b h. absurd (both_ways (x.ties r a b) (sound.known r a b) h) };
        }

    go : (b : Bool) → eqb s.left 0 ≡ b → (cond b counted (unfit s p)).1 ≡ Ok t → More InEvents s.left p (Ties n) t (cond b counted (unfit s p)).0
    go true q h = let same : moved s InTies n 0 ≡ t = cc in subst (λ (v : Reader). More InEvents s.left p (Ties n) v p) same (step (eqb-true s.left 0 q))
    go false q h = absurd (no_reader _ t h)

-- ---- a tie

tie_more : (records words : ℕ) (s : Reader) (r : Relation) (a b : ℕ) (p : Plain) (t : Reader) → Sound InTies s.least p → (tie_step records words s r a b p).1 ≡ Ok t
    → More InTies s.left p (Tie r a b) t (tie_step records words s r a b p).0
tie_more records words s r a b p t sound e = go (eqb s.left 0) refl (ltb (rank r a b) s.least) refl e
  where
    misordered : Step
    misordered = (p, Err (text_fault LineOrder s.line))

    step : (s.left ≡ 0 → ⊥) → s.least ≤ rank r a b → (known : Entry records words r a b p) → More InTies s.left p (Tie r a b) (moved s InTies (s.left - 1) (rank r a b + 1)) (tied r a b p)
    step left order known =
        let x = p.execution in
        let last : (q : Relation) (d e : ℕ) → x.ties q d e ≡ true → rank q d e < rank r a b = λ q d e h. let below = sound.known q d e h in omega arith in
        let ties = listed x r a b sound.case.few known.first known.second last in
        let counted : length (ties_in x ++ Tie r a b ∷ []) + (s.left - 1) ≡ length (ties_in x) + s.left = ⊎_elim (λ z. absurd (left z)) (λ z. omega (arith, length_push (ties_in x) (Tie r a b))) (cases_eq s.left 0) in
        let front = Events (count x) ∷ flat_map event_lines x.events in
        record {
          lines =
              ap (λ (l : List Line). front ++ (Ties (length l + (s.left - 1)) ∷ l)) ties
              ∙ ap (λ (m : ℕ). front ++ (Ties m ∷ (ties_in x ++ Tie r a b ∷ []))) counted
              ∙ sym (append_assoc front (Ties (length (ties_in x) + s.left) ∷ ties_in x) (Tie r a b ∷ []));
          sound = record {
            case = tied_case x r a b sound.case known.first known.second known.fit known.free;
            known = λ q d e h. ⊎_elim (λ o. let l = last q d e o in omega arith) (λ o. let same = pair_same r a b q d e o in rank_same r a b q d e same) (or_cases (x.ties q d e) (pair r a b q d e) h);
          };
        }

    go : (i : Bool) → eqb s.left 0 ≡ i → (j : Bool) → ltb (rank r a b) s.least ≡ j
        → (cond i (unfit s p) (cond j misordered (entry s (moved s InTies (s.left - 1) (rank r a b + 1)) (tie_plain records words (relation_number r) a b p)))).1 ≡ Ok t
        → More InTies s.left p (Tie r a b) t (cond i (unfit s p) (cond j misordered (entry s (moved s InTies (s.left - 1) (rank r a b + 1)) (tie_plain records words (relation_number r) a b p)))).0
    go true q j l h = absurd (no_reader _ t h)
    go false q true l h = absurd (no_reader _ t h)
    go false q false l h =
        let ok = entry_ok s (moved s InTies (s.left - 1) (rank r a b + 1)) t (tie_plain records words (relation_number r) a b p).1 h in
        let known = tie_accepted records words r a b p ok.1 in
        subst₂ (λ (v : Reader) (w : Plain). More InTies s.left p (Tie r a b) v w)
        (entry_next s (moved s InTies (s.left - 1) (rank r a b + 1)) t (tie_plain records words (relation_number r) a b p).1 h) (sym known.after)
        (step (eqb-false s.left 0 q) (ltb-false (rank r a b) s.least l) known)

-- ---- any line

start_more : (s : Reader) (n : ℕ) (p : Plain) (t : Reader) → Sound Start s.least p → moved s InEvents n 0 ≡ t → More Start s.left p (Events n) t p
start_more s n p t sound e =
    let x = p.execution in
    subst (λ (v : Reader). More Start s.left p (Events n) v p) e (record {
      lines = ap (λ (l : List Record). Events (length l + n) ∷ flat_map event_lines l) sound.known.0 ∙ ap (λ (m : ℕ). Events m ∷ []) (omega arith);
      sound = record { case = sound.case; known = sound.known.1 };
    })

line_more : (section : Section) (l : Line) (records words : ℕ) (s : Reader) (p : Plain) (t : Reader) → Sound section s.least p → (in_section section l records words s p).1 ≡ Ok t
    → More section s.left p l t (in_section section l records words s p).0
line_more Start (Events n) records words s p t sound e = start_more s n p t sound (cc)
line_more Start (Event k u n) records words s p t sound e = absurd (no_reader _ t e)
line_more Start (Ties n) records words s p t sound e = absurd (no_reader _ t e)
line_more Start (Tie r a b) records words s p t sound e = absurd (no_reader _ t e)
line_more InEvents (Events n) records words s p t sound e = absurd (no_reader _ t e)
line_more InEvents (Event k u n) records words s p t sound e = event_more records words s k u n p t sound e
line_more InEvents (Ties n) records words s p t sound e = ties_more s n p t sound e
line_more InEvents (Tie r a b) records words s p t sound e = absurd (no_reader _ t e)
line_more InTies (Events n) records words s p t sound e = absurd (no_reader _ t e)
line_more InTies (Event k u n) records words s p t sound e = absurd (no_reader _ t e)
line_more InTies (Ties n) records words s p t sound e = absurd (no_reader _ t e)
line_more InTies (Tie r a b) records words s p t sound e = tie_more records words s r a b p t sound e

-- ---- the whole text

-- the bytes of the lines before a reader
abbrev bytes_before : Reader → Plain → List ℕ
bytes_before s p = flat_map line (lines_before s.section s.left p.execution)

-- what was read is the text of a case
pub record Text (bs : List ℕ) (q : Plain) : Type 0 where
  pub whole : bs ≡ text_of q.execution
  pub case : Case q.execution

pub no_case : (f : TextFault) (q : Plain) → ◌≡◌ {A = Result Plain TextFault} (Err f) (Ok q) → ⊥
no_case f q e = let z : ◌≡◌ {A = ℕ} 0 1 = cc in absurd (omega arith)

-- at the end
ended : (section : Section) (left least : ℕ) (p : Plain) → Sound section least p → elim section as (λ _. Bool) [ Start ↦ false | InEvents ↦ false | InTies ↦ eqb left 0 ] ≡ true
    → Text (flat_map line (lines_before section left p.execution)) p
unfolding text_of
ended Start left least p sound e = let z : ◌≡◌ {A = ℕ} 0 1 = cc in absurd (omega arith)
ended InEvents left least p sound e = let z : ◌≡◌ {A = ℕ} 0 1 = cc in absurd (omega arith)
ended InTies left least p sound e =
    let x = p.execution in
    let none = eqb-true left 0 e in
    record {
      whole = ap (λ (m : ℕ). flat_map line ((Events (count x) ∷ flat_map event_lines x.events) ++ (Ties m ∷ ties_in x))) (omega arith);
      case = sound.case;
    }

finished : (s : Reader) (p : Plain) (begun : List ℕ) (q : Plain) → Sound s.section s.least p → finish s p begun ≡ Ok q → Text (bytes_before s p ++ (begun ++ [])) q
finished s p begun q sound e = go begun (done s) refl e
  where
    go : (b : List ℕ) (d : Bool) → done s ≡ d → cond (d && empty b) (Ok p) (Err (text_fault LineForm s.line)) ≡ Ok q → Text (bytes_before s p ++ (b ++ [])) q
    go [] true h k =
        let same : p ≡ q = cc in
        let end = ended s.section s.left s.least p sound h in
        subst (λ (v : Plain). Text (bytes_before s p ++ []) v) same (subst (λ (l : List ℕ). Text l p) (sym (append-nil (bytes_before s p))) end)
    go [] false h k = absurd (no_case _ q k)
    go (c ∷ b) true h k = absurd (no_case _ q k)
    go (c ∷ b) false h k = absurd (no_case _ q k)

pushed : (ls : List Line) (l : Line) → flat_map line ls ++ line l ≡ flat_map line (ls ++ l ∷ [])
pushed ls l = flat_map_more line [] ls l

-- a line more was read
line_read : (records words : ℕ) (s : Reader) (p : Plain) (begun cs : List ℕ) (c : ℕ) (q : Plain) → c ≡ 10 → Sound s.section s.least p
    → ((t : Reader) (v : Plain) → Sound t.section t.least v → scan records words t v [] cs ≡ Ok q → Text (bytes_before t v ++ cs) q)
    → onward (line_step records words s begun p) (λ t v. scan records words t v [] cs) ≡ Ok q → Text (bytes_before s p ++ (begun ++ c ∷ cs)) q
line_read records words s p begun cs c q ten sound later e = go (line_step records words s begun p).1 refl e
  where
    go : (r : Result Reader TextFault) → (line_step records words s begun p).1 ≡ r
        → elim r as (λ _. Result Plain TextFault) [ Err f ↦ Err f | Ok t ↦ scan records words t (line_step records words s begun p).0 [] cs ] ≡ Ok q
        → Text (bytes_before s p ++ (begun ++ c ∷ cs)) q
    go (Err f) h k = absurd (no_case f q k)
    go (Ok t) h k =
        let l = took records words s begun p t h in
        let more = line_more s.section l.taken records words s p t sound l.gave in
        let next : Plain = (line_step records words s begun p).0 in
        let same : (in_section s.section l.taken records words s p).0 ≡ (line_step records words s begun p).0 = ap (λ w. w.0) (sym l.after) in
        let lines : bytes_before t (line_step records words s begun p).0 ≡ bytes_before s p ++ (begun ++ 10 ∷ []) =
        ap (bytes_before t) (sym same) ∙ ap (flat_map line) more.lines
        ∙ sym (pushed (lines_before s.section s.left p.execution) l.taken)
        ∙ ap (λ b. bytes_before s p ++ (b ++ 10 ∷ [])) (sym l.spelling) in
        let rest = later t (line_step records words s begun p).0 (subst (λ (v : Plain). Sound t.section t.least v) same more.sound) k in
        subst (λ (b : List ℕ). Text b q)
        (ap (λ b. b ++ cs) lines ∙ append_assoc (bytes_before s p) (begun ++ 10 ∷ []) cs ∙ ap (λ b. bytes_before s p ++ b) (append_assoc begun (10 ∷ []) cs ∙ ap (λ (n : ℕ). begun ++ n ∷ cs) (sym ten)))
        rest

scanned : (records words : ℕ) (bs : List ℕ) (s : Reader) (p : Plain) (begun : List ℕ) (q : Plain) → Sound s.section s.least p → scan records words s p begun bs ≡ Ok q
    → Text (bytes_before s p ++ (begun ++ bs)) q
unfolding scan
scanned records words [] s p begun q sound e = finished s p begun q sound e
scanned records words (c ∷ cs) s p begun q sound e =
    go (eqb c 10) refl e (λ t v u h. scanned records words cs t v [] q u h) (λ h. scanned records words cs s p (begun ++ c ∷ []) q sound h)
  where
    go : (b : Bool) → eqb c 10 ≡ b
        → cond b (onward (line_step records words s begun p) (λ t v. scan records words t v [] cs)) (scan records words s p (begun ++ c ∷ []) cs) ≡ Ok q
        → ((t : Reader) (v : Plain) → Sound t.section t.least v → scan records words t v [] cs ≡ Ok q → Text (bytes_before t v ++ cs) q)
        → (scan records words s p (begun ++ c ∷ []) cs ≡ Ok q → Text (bytes_before s p ++ ((begun ++ c ∷ []) ++ cs)) q)
        → Text (bytes_before s p ++ (begun ++ c ∷ cs)) q
    go true h k next same = line_read records words s p begun cs c q (eqb-true c 10 h) sound next k
    go false h k next same = subst (λ (b : List ℕ). Text (bytes_before s p ++ b) q) (append_assoc begun (c ∷ []) cs) (same k)

-- what is accepted is the text of the case that was read
pub read_back : (records words : ℕ) (bs : List ℕ) (q : Plain) → scan records words start blank [] bs ≡ Ok q → Text bs q
read_back records words bs q e = scanned records words bs start blank [] q (record { case = blank_case; known = (refl, λ r a b. refl) }) e
