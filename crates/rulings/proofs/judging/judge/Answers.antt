use Rattle.std.proofs.Common.{◌≡◌, ℕ, ◌<◌, ◌≤◌, List, ◌++◌, length, take, drop, sym, ap, ◌∙◌, subst, arith, rules}
use Rattle.std.proofs.lemmas.List.{length-take-le, take_all, get_or_append_left, drop_at}
use Rattle.basis.specs.Basis.{Basis}
use Rattle.basis.specs.Meaning.{basis}
use Rattle.lkmm.specs.Held.{held}
use Rattle.rulings.specs.declared.kinds.SheetRow.{SheetRow}
use Rattle.rulings.specs.Rulings.{Ruled, row, blank}
use Rattle.rulings.proofs.Assembling.{ruled_rows}
use Rattle.rulings.proofs.judging.judge.Goals as goal

-- the front of a sheet is as long as the drawn rows, or as many of them
as_long : (n : ℕ) (xs ys : List SheetRow) → 64 ≤ length xs → length ys ≡ 64 → n ≡ 64 → length (take n xs) ≡ length ys
as_long n xs ys few long e = length-take-le n xs (omega arith) ∙ e ∙ sym long

both_cut : (n : ℕ) (xs ys : List SheetRow) → 64 ≤ length xs → length ys ≡ 64 → n ≤ 64 → length (take n xs) ≡ length (take n ys)
both_cut n xs ys few long h = length-take-le n xs (omega arith) ∙ sym (length-take-le n ys (omega arith))

-- a copy of all the drawn rows, cut at their end
all_cut : (n : ℕ) (ys : List SheetRow) → length ys ≡ 64 → n ≡ 64 → take n ys ≡ ys
all_cut n ys long e = take_all n ys (omega (arith, long, e))

pub copy_from_slice-requires : goal.copy_from_slice-requires
copy_from_slice-requires g c =
    let few : 64 ≤ length c.args.sheet.now = omega arith in
    let long : length c.rule_on.result.1 ≡ 64 = search rules in
    search (rules, as_long, both_cut)

pub returns : goal.returns
returns g c =
    let few : 64 ≤ length c.args.sheet.now = omega arith in
    let o = c.in_ok-case.ensures in
    let drawn = c.rule_on.result.1 in
    let drawn_long : length drawn ≡ 64 = search rules in
    let front = c.copy_from_slice.new.self in
    let rest = drop 64 c.args.sheet.now in
    let copied : front ≡ drawn = c.copy_from_slice.ensures.after ∙ search (rules, all_cut) in
    let long : length front ≡ 64 = ap length copied ∙ drawn_long in
    let rows : (i : ℕ) → i < 64 → row (front ++ rest) i ≡ row drawn i =
    λ i l. get_or_append_left front rest blank i (omega arith) ∙ ap (λ (s : List SheetRow). row s i) copied in
    let same = ap held c.of.ensures ∙ c.of-model.ensures ∙ ap basis o.0 in (
      few,
      o.2,
      subst (λ (b : Basis). Ruled b (front ++ rest) c.rule_on.result.0) same (ruled_rows drawn (front ++ rest) rows _ c.rule_on.result.0 c.rule_on.ensures),
      drop_at front rest 64 long,
    )
