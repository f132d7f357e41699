-- The promise of a ruling, put together from what its steps leave.
use Rattle.std.proofs.Common.{◌≡◌, ℕ, ◌<◌, Bool, true, false, ◌&&◌, ltb, ◌↔◌, List, [], length, get_or, replicate, is_some, IfSome, Some, None, Decides, MatchBool, Option, sym, refl, ap, ◌∙◌, subst, ⊎_elim, arith, MatchOption}
use mathlib.Core.Path.{fun_ext}
use lib.ListN.{get_or-replicate}
use Rattle.std.proofs.lemmas.Bool.{and_parts, and_from, false≢true, cases_lt, le-ltb}
use Rattle.rows.specs.Row.{bit}
use Rattle.relations.specs.Algebra.{Rel, union}
use Rattle.relations.specs.Chains.{Acyclic}
use Rattle.relations.specs.Table.{table}
use Rattle.grace.specs.Scene.{Scene, Sound, pb}
use Rattle.grace.specs.Law.{Table, Rcu, pair, enlarged}
use Rattle.grace.specs.First.{First}
use Rattle.grace.specs.Deciding.{first_table, row as table_row}
use Rattle.grace.proofs.Joint.{joint_order_law}
use Rattle.grace.proofs.Precedence.{precedence_law}
use Rattle.precedence.specs.declared.kinds.FirstTable.{FirstTable}
use Rattle.basis.specs.Basis.{Basis}
use Rattle.lkmm.specs.Model as model
use Rattle.lkmm.specs.Rules as rules
use Rattle.rulings.specs.declared.kinds.Report.{Report}
use Rattle.rulings.specs.declared.kinds.Report.TheVariants.{Kept, Broken}
use Rattle.rulings.specs.declared.kinds.Reports.{Reports}
use Rattle.rulings.specs.declared.kinds.Breach.{Breach}
use Rattle.rulings.specs.declared.kinds.Verdict.TheVariants.{Allowed, Forbidden}
use Rattle.rulings.specs.declared.kinds.Rule.{Rule}
use Rattle.rulings.specs.declared.kinds.Rule.TheVariants.{Pb, Rcu as RcuRule}
use Rattle.rulings.specs.declared.kinds.Ruling.{Ruling}
use Rattle.rulings.specs.declared.kinds.SheetRow.{SheetRow}
use Rattle.rulings.specs.declared.pages.Page.{Page}
use Rattle.rulings.specs.Pages.{Column, PageOf, OrderIn, Drawn, Listing}
use Rattle.rulings.specs.Rules.{RoundOf}
use Rattle.rulings.specs.Rulings.{Says, Reported, first_broken, verdict_of, kept, both_kept, row, words, FirstWords, Lists, Forbids, Allows, Shows, Ruled}
use Rattle.rulings.specs.Steps.{Breached, Orderable, AllowedBy}
use Rattle.rulings.specs.Tables.{Decided, words_of}

-- ---- what the steps list

-- a column with nothing in it
none_listed : Column [] (replicate 64 255)
none_listed i l = get_or-replicate {A = ℕ} 64 i 255 255 l

-- a drawn sheet lists what its columns list
drawn_lists : (p : Page) (fs gs ws : List ℕ) (sheet : List SheetRow) (es ms xs ys : List ℕ) → Column es p.events → Column ms p.marks → Column xs fs → Column ys gs
    → Drawn p fs gs ws sheet → Lists sheet es ms xs ys
drawn_lists p fs gs ws sheet es ms xs ys ce cm cf cg d = record {
  events_are = λ i l. ap (λ (r : SheetRow). r.event) (d i l) ∙ ce i l;
  marks_are = λ i l. ap (λ (r : SheetRow). r.mark) (d i l) ∙ cm i l;
  firsts_are = λ i l. ap (λ (r : SheetRow). r.first) (d i l) ∙ cf i l;
  seconds_are = λ i l. ap (λ (r : SheetRow). r.second) (d i l) ∙ cg i l;
}

pub forbidden : (b : Basis) (k : Rule) (p : Page) (ws : List ℕ) (sheet : List SheetRow) → PageOf (RoundOf b k) p → Drawn p (replicate 64 255) (replicate 64 255) ws sheet
    → Breached b k ws sheet (record { rule = k; length = p.steps })
forbidden b k p ws sheet h d = record {
  listing = record {
    round = h.events;
    marks = h.marks;
    first = [];
    second = [];
    holds = record { round_of = h.holds; no_first = refl; no_second = refl };
    lists = drawn_lists p (replicate 64 255) (replicate 64 255) ws sheet h.events h.marks [] [] h.paged.events_are h.paged.marks_are none_listed none_listed d;
    worded = λ i l. ap (λ (r : SheetRow). r.word) (d i l);
  };
  breach = λ j. record { rule = k; length = h.paged.steps_are j };
}

pub allowed : (b : Basis) (F : Table) (fs gs ws : List ℕ) (sheet : List SheetRow) → OrderIn (rules.per_place b) b.count fs
    → OrderIn (union (model.hb b) (enlarged (rules.scene b) F)) b.count gs → Drawn (record { events = replicate 64 255; marks = replicate 64 255; steps = 0 }) fs gs ws sheet
    → Listing (Allows b F) ws sheet
allowed b F fs gs ws sheet o q d = record {
  round = [];
  marks = [];
  first = o.places;
  second = q.places;
  holds = record { no_round = refl; no_marks = refl; all_first = o.all; all_second = q.all; in_first = o.order; in_second = q.order };
  lists = drawn_lists (record { events = replicate 64 255; marks = replicate 64 255; steps = 0 }) fs gs ws sheet [] [] o.places q.places none_listed none_listed o.listed q.listed d;
  worded = λ i l. ap (λ (r : SheetRow). r.word) (d i l);
}

-- ---- the table

-- what is decided of one scene is decided of an equal one
pub decided : (x y : Scene) (t : Option FirstTable) → x ≡ y → Decides (is_some t) (Rcu x x.strong)
    → IfSome t (λ t. Acyclic (pb x x.strong) → First x (table t.rows)) → IfSome t (λ t. table t.rows ≡ first_table x) → Decided y t
unfolding first_table table_row
decided x y t e rule first rows = subst (λ (z : Scene). Decided z t) e (record { rule = rule; first = first; others = only t rows })
  where
    only : (t : Option FirstTable) → IfSome t (λ t. table t.rows ≡ first_table x) → IfSome t (λ t. (l s : ℕ) → table t.rows l s ≡ true → pair x l s ≡ true)
    only None h = tt
    only (Some t) h = λ l s k. (and_parts (pair x l s) _ (sym (ap (λ (r : Rel). r l s) h) ∙ k)).0

pub rcu_decided : (x y : Scene) (t : Bool) → x ≡ y → Decides t (Rcu x x.strong) → Decides t (Rcu y y.strong)
rcu_decided x y t e = subst (λ (z : Scene). Decides t (Rcu z z.strong)) e

-- ---- reports

-- no rule is reported broken: each is reported kept
pub all_kept : (r : Reports) → first_broken r ≡ None → (r.scpv ≡ Kept) × (r.at ≡ Kept) × (r.hb ≡ Kept) × (r.pb ≡ Kept) × (r.rcu ≡ Kept)
all_kept r e = go r.scpv r.at r.hb r.pb r.rcu e
  where
    go : (s a h p u : Report) → first_broken (record { scpv = s; at = a; hb = h; pb = p; rcu = u }) ≡ None → (s ≡ Kept) × (a ≡ Kept) × (h ≡ Kept) × (p ≡ Kept) × (u ≡ Kept)
    go Broken a h p u e = absurd (let z : ◌≡◌ {A = ℕ} 0 1 = cc in omega arith)
    go Kept Broken h p u e = absurd (let z : ◌≡◌ {A = ℕ} 0 1 = cc in omega arith)
    go Kept Kept Broken p u e = absurd (let z : ◌≡◌ {A = ℕ} 0 1 = cc in omega arith)
    go Kept Kept Kept Broken u e = absurd (let z : ◌≡◌ {A = ℕ} 0 1 = cc in omega arith)
    go Kept Kept Kept Kept Broken e = absurd (let z : ◌≡◌ {A = ℕ} 0 1 = cc in omega arith)
    go Kept Kept Kept Kept Kept e = (refl, refl, refl, refl, refl)

-- what is reported kept is kept
pub says_kept : (r : Report) (P : Type 0) → r ≡ Kept → Says r P → P
says_kept r P e h = subst (λ (q : Report). Says q P) e h

kept_says : (r : Report) (P : Type 0) → P → Says r P → kept r ≡ true
kept_says Kept P p h = refl
kept_says Broken P p h = absurd (h p)

true_says : (r : Report) (P : Type 0) → kept r ≡ true → Says r P → P
true_says Kept P e h = h
true_says Broken P e h = absurd (false≢true e)

-- ---- the law, and the words

module _ (b : Basis) (r : Reports) (reported : Reported b r) (ok : Sound (rules.scene b)) where
  pub law_holds : both_kept r ≡ true ↔ ((F : Table) × Acyclic (enlarged (rules.scene b) F))
  unfolding rules.scene model.pb pb
  law_holds = (
    λ e.
        let k = and_parts (kept r.pb) (kept r.rcu) e in
        (precedence_law (rules.scene b) ok).0 (true_says r.pb (rules.Pb b) k.0 (reported Pb), true_says r.rcu (rules.Rcu b) k.1 (reported RcuRule)),
    λ F.
        let k = (precedence_law (rules.scene b) ok).1 F in
        and_from (kept r.pb) (kept r.rcu) (kept_says r.pb (rules.Pb b) k.0 (reported Pb)) (kept_says r.rcu (rules.Rcu b) k.1 (reported RcuRule)),
  )

-- ---- the second order

-- what there is of something, by what it is
pub cases_at : {A : Type 0} (t : Option A) (a : A) (P : Type 0) (Q : A → Type 0) → t ≡ Some a → MatchOption t P Q → Q a
cases_at t a P Q e h = subst (λ (u : Option _). MatchOption u P Q) e h

pub cases_from : {A : Type 0} (t : Option A) (a : A) (P : Type 0) (Q : A → Type 0) → t ≡ Some a → Q a → MatchOption t P Q
cases_from t a P Q e h = subst (λ (u : Option _). MatchOption u P Q) (sym e) h

-- hb and enlarged pb together have no cycle
pub joint_acyclic : (b : Basis) (F : Table) (r : Rel) → Sound (rules.scene b) → rules.Hb b → Acyclic (enlarged (rules.scene b) F) → r ≡ union (model.hb b) (enlarged (rules.scene b) F) → Acyclic r
unfolding rules.scene enlarged
joint_acyclic b F r ok hb enl e = subst Acyclic (sym e) (joint_order_law (rules.scene b) ok _ hb enl)

-- ---- the whole promise

-- the words of the sheet are the rows that were drawn
words_are : (ws : List ℕ) (sheet : List SheetRow) → ((i : ℕ) → i < 64 → (row sheet i).word ≡ get_or ws i 0) → words sheet ≡ table ws
unfolding table
words_are ws sheet h = fun_ext λ l. fun_ext λ s. ⊎_elim (λ k. ap (λ (w : ℕ). ltb l 64 && (ltb s 64 && bit w s)) (h l k)) (λ k. rw (le-ltb l 64 k) refl) (cases_lt l 64)

-- where both are kept there is a table, and its rows are the words
both_table : (b : Basis) (r : Reports) (t : Option FirstTable) → Reported b r → Decided (rules.scene b) t → both_kept r ≡ true → First (rules.scene b) (table (words_of r t)) × ((l s : ℕ) → table (words_of r t) l s ≡ true → pair (rules.scene b) l s ≡ true)
unfolding rules.scene model.pb pb
both_table b r None said d e = absurd (false≢true (d.rule.1 (true_says r.rcu (rules.Rcu b) (and_parts (kept r.pb) (kept r.rcu) e).1 (said RcuRule))))
both_table b r (Some t) said d e =
    let k = true_says r.pb (rules.Pb b) (and_parts (kept r.pb) (kept r.rcu) e).0 (said Pb) in
    rw e (d.first k, d.others)

-- where one is broken the words are zeros
no_words : (r : Reports) (t : Option FirstTable) → both_kept r ≡ false → words_of r t ≡ replicate 64 0
no_words r None e = refl
no_words r (Some t) e = rw e refl

precedence_is : (b : Basis) (r : Reports) (t : Option FirstTable) (sheet : List SheetRow) → Reported b r → Decided (rules.scene b) t → ((i : ℕ) → i < 64 → (row sheet i).word ≡ get_or (words_of r t) i 0)
    → MatchBool (both_kept r) (FirstWords b sheet) ((i : ℕ) → i < 64 → (row sheet i).word ≡ 0)
precedence_is b r t sheet said d h = go (both_kept r) refl
  where
    go : (e : Bool) → both_kept r ≡ e → MatchBool e (FirstWords b sheet) ((i : ℕ) → i < 64 → (row sheet i).word ≡ 0)
    go true e =
        let p = both_table b r t said d e in
        let q = sym (words_are (words_of r t) sheet h) in
        record { first = subst (First (rules.scene b)) q p.0; others = subst (λ (F : Table). (l s : ℕ) → F l s ≡ true → pair (rules.scene b) l s ≡ true) q p.1 }
    go false e = λ i l. h i l ∙ ap (λ (ws : List ℕ). get_or ws i 0) (no_words r t e) ∙ get_or-replicate {A = ℕ} 64 i 0 0 l

-- the promise, from the listing of what the first broken rule asks for
pub ruled : (b : Basis) (r : Reports) (t : Option FirstTable) (k : Option Rule) (sheet : List SheetRow) → Sound (rules.scene b) → Reported b r → Decided (rules.scene b) t → k ≡ first_broken r
    → (listing : Listing (Shows b (table (words_of r t)) k) (words_of r t) sheet) → Ruled b sheet (record { reports = r; verdict = verdict_of k (length listing.round) })
ruled b r t k sheet ok said d e listing = record {
  reports = said;
  round = listing.round;
  marks = listing.marks;
  first = listing.first;
  second = listing.second;
  verdict = ap (λ (j : Option Rule). verdict_of j (length listing.round)) e;
  listed = listing.lists;
  shown =
      subst (λ (j : Option Rule). Shows b (words sheet) j listing.round listing.marks listing.first listing.second) e
      (subst (λ (F : Table). Shows b F k listing.round listing.marks listing.first listing.second) (sym (words_are (words_of r t) sheet listing.worded)) listing.holds);
  law = law_holds b r said ok;
  precedence = precedence_is b r t sheet said d listing.worded;
}

-- forbidden by a broken rule
pub ruled_forbidden : (b : Basis) (r : Reports) (t : Option FirstTable) (k : Rule) (ws : List ℕ) (sheet : List SheetRow) (breach : Breach) → Sound (rules.scene b) → Reported b r → Decided (rules.scene b) t
    → ws ≡ words_of r t → Some k ≡ first_broken r → Breached b k ws sheet breach → Ruled b sheet (record { reports = r; verdict = Forbidden breach })
ruled_forbidden b r t k ws sheet breach ok said d e q h =
    subst (λ (v : Breach). Ruled b sheet (record { reports = r; verdict = Forbidden v })) (sym h.breach) (go ws e h.listing)
  where
    go : (vs : List ℕ) → vs ≡ words_of r t → (l : Listing (Forbids b k) vs sheet) → Ruled b sheet (record { reports = r; verdict = Forbidden (record { rule = k; length = length l.round }) })
    go vs f l = ruled b r t (Some k) sheet ok said d q (record { round = l.round; marks = l.marks; first = l.first; second = l.second; holds = l.holds; lists = l.lists; worded = λ i s. l.worded i s ∙ ap (λ (us : List ℕ). get_or us i 0) f })

-- both reports that the table depends on, where no rule is broken
both_true : (r : Reports) → None ≡ first_broken r → both_kept r ≡ true
both_true r q = let k = all_kept r (sym q) in rw (k.3, k.4) refl

-- there is a table that leaves enlarged pb without a cycle, where no rule is broken
pub orderable : (b : Basis) (r : Reports) (t : Option FirstTable) → Reported b r → Decided (rules.scene b) t → None ≡ first_broken r → Orderable (rules.scene b) t
unfolding rules.scene model.pb pb
orderable b r None said d q = false≢true (d.rule.1 (says_kept r.rcu (rules.Rcu b) (all_kept r (sym q)).4 (said RcuRule)))
orderable b r (Some t) said d q = (d.first (says_kept r.pb (rules.Pb b) (all_kept r (sym q)).3 (said Pb))).obeys

-- allowed
pub ruled_allowed : (b : Basis) (r : Reports) (t : Option FirstTable) (ws : List ℕ) (sheet : List SheetRow) → Sound (rules.scene b) → Reported b r → Decided (rules.scene b) t
    → ws ≡ words_of r t → None ≡ first_broken r → AllowedBy b t ws sheet → Ruled b sheet (record { reports = r; verdict = Allowed })
ruled_allowed b r None ws sheet ok said d e q h = absurd h
ruled_allowed b r (Some t) ws sheet ok said d e q h = ruled b r (Some t) None sheet ok said d q listing
  where
    rows_are : t.rows ≡ words_of r (Some t)
    rows_are = rw (both_true r q) refl

    listing : Listing (Shows b (table (words_of r (Some t))) None) (words_of r (Some t)) sheet
    listing = record {
      round = h.round;
      marks = h.marks;
      first = h.first;
      second = h.second;
      holds = subst (λ (us : List ℕ). Allows b (table us) h.round h.marks h.first h.second) rows_are h.holds;
      lists = h.lists;
      worded = λ i s. h.worded i s ∙ ap (λ (us : List ℕ). get_or us i 0) e;
    }

-- ---- the rows that are written

-- a promise of some rows is one of every sheet that begins with them
module _ (sheet sheet' : List SheetRow) (same : (i : ℕ) → i < 64 → row sheet' i ≡ row sheet i) where
  same_words : words sheet' ≡ words sheet
  same_words =
      fun_ext λ l. fun_ext λ s. ⊎_elim (λ k. ap (λ (r : SheetRow). ltb l 64 && (ltb s 64 && bit r.word s)) (same l k)) (λ k. rw (le-ltb l 64 k) refl) (cases_lt l 64)

  same_precedence : (b : Basis) (e : Bool) → MatchBool e (FirstWords b sheet) ((i : ℕ) → i < 64 → (row sheet i).word ≡ 0)
      → MatchBool e (FirstWords b sheet') ((i : ℕ) → i < 64 → (row sheet' i).word ≡ 0)
  same_precedence b true p =
      record { first = subst (First (rules.scene b)) (sym same_words) p.first; others = subst (λ (F : Table). (l s : ℕ) → F l s ≡ true → pair (rules.scene b) l s ≡ true) (sym same_words) p.others }
  same_precedence b false p = λ i l. ap (λ (r : SheetRow). r.word) (same i l) ∙ p i l

  pub ruled_rows : (b : Basis) (r : Ruling) → Ruled b sheet r → Ruled b sheet' r
  ruled_rows b r h = record {
    reports = h.reports;
    round = h.round;
    marks = h.marks;
    first = h.first;
    second = h.second;
    verdict = h.verdict;
    listed = record {
      events_are = λ i l. ap (λ (v : SheetRow). v.event) (same i l) ∙ h.listed.events_are i l;
      marks_are = λ i l. ap (λ (v : SheetRow). v.mark) (same i l) ∙ h.listed.marks_are i l;
      firsts_are = λ i l. ap (λ (v : SheetRow). v.first) (same i l) ∙ h.listed.firsts_are i l;
      seconds_are = λ i l. ap (λ (v : SheetRow). v.second) (same i l) ∙ h.listed.seconds_are i l;
    };
    shown = subst (λ (F : Table). Shows b F (first_broken r.reports) h.round h.marks h.first h.second) (sym same_words) h.shown;
    law = h.law;
    precedence = same_precedence b (both_kept r.reports) h.precedence;
  }
