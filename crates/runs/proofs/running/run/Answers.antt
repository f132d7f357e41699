use Rattle.std.proofs.Common.{◌≡◌, ℕ, ◌<◌, min, length, take, drop, sym, refl, ◌∙◌, subst, subst₂, arith}
use Rattle.std.proofs.lemmas.List.{get_or-take, get_or_default, length-take}
use Rattle.runs.specs.Runs.{Run}
use Rattle.runs.specs.States.{plain}
use Rattle.runs.proofs.Going.{open_long, begun, run_more, rest_more}
use Rattle.runs.proofs.running.run.Goals as goal

pub loop-i-init : goal.loop-i-init
loop-i-init c =
    let o = c.in_ok-open.ensures in
    let long = open_long (length c.args.events.now) (length c.args.ties.now) o.0 in
    record { so_far = begun _ _ _ o.3.0; exact = o.3.1; formed = tt; records = omega (arith, long.0); words = omega (arith, long.1); rest = refl }

pub loop-i-preserved : goal.loop-i-preserved
loop-i-preserved c =
    let inv = c.loop-i.invariant in
    let room = c.min-room.result in
    let calls = c.args.calls.now in
    let inside : c.loop-i.i < min room (length calls) = simp length-take at c.loop-i-test.true in
    let here = sym (get_or-take room calls c.loop-i.i _ (omega arith)) ∙ get_or_default (take room calls) c.loop-i.i _ _ c.loop-i-test.true in
    record {
      so_far = run_more (length c.loop-i.events) (length c.loop-i.ties) _ _ calls c.loop-i.answers c.loop-i.i _ _ _ c.step-next.result.1 (omega arith) (omega arith)
          (omega arith) (omega (arith, c.min-room.ensures)) here inv.so_far c.step-next.ensures.steps;
      exact = c.step-next.ensures.exact inv.exact;
      formed = c.step-next.ensures.formed;
      records = omega (arith, inv.records);
      words = omega (arith, inv.words);
      rest = rest_more c.loop-i.answers c.args.answers.now c.loop-i.i c.step-next.result.1 inv.rest;
    }

pub returns : goal.returns
returns c =
    let inv = c.loop-i.invariant in
    let n = min (length c.args.calls.now) (length c.args.answers.now) in
    let all : c.loop-i.i ≡ n = omega (arith, length-take c.min-room.result c.args.calls.now, c.min-room.ensures) in
    let records : length c.loop-i.events ≡ length c.args.events.now = omega arith in
    let words : length c.loop-i.ties ≡ length c.args.ties.now = omega arith in (
      subst₂ (λ (x y : ℕ). Run x y (take n c.args.calls.now) (take n c.loop-i.answers) (plain c.loop-i.state c.loop-i.events c.loop-i.ties)) records words
          (subst (λ (k : ℕ). Run (length c.loop-i.events) (length c.loop-i.ties) (take k c.args.calls.now) (take k c.loop-i.answers) (plain c.loop-i.state c.loop-i.events c.loop-i.ties)) all inv.so_far),
      inv.exact,
      subst (λ (k : ℕ). drop k c.loop-i.answers ≡ drop k c.args.answers.now) all inv.rest,
    )
