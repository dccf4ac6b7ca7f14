use Rattle.std.proofs.Common.{ℕ, List, [], ◌∷◌, not, cond, pos, arith, ap, sym, subst, ◌∙◌}
use Rattle.std.specs.List.{filter}
use Rattle.addin_types.specs.Samples.{sample_answer}
use Rattle.calc_book.specs.Keeping.{InRound, ReadsInRound}
use Rattle.calc_book.specs.Samples.{feed_state, sample_setting}
use Rattle.calc_book.proofs.Samples.{differ, forgets}
use Rattle.calc_round.specs.Rounds.{round_setting}
use Rattle.cell_refs.specs.Cell.{is_among, same_cell}
use Rattle.cell_values.specs.declared.values.Value.{Value}
use Rattle.cell_values.specs.declared.values.Value.TheVariants as values
use Rattle.command_log.specs.Log.{results_of}
use Rattle.calc_book.proofs.tests.return_value.Goals as goal

pub redeem-requires : goal.redeem-requires
redeem-requires c = let d = c.args.desk.now in record { runs = (sample_setting d.book d.log d.feed.value, 1, (c.requires.state, c.requires.running)) }

pub returns : goal.returns
returns c =
    let r = c.requires in
    let d = c.args.desk.now in
    let handle = c.args.handle.now in
    let log = c.accept.new.self in
    let book = c.redeem.new.self in
    let kept = c.in_ok-readings.readings.items in
    let earlier = sample_setting d.book d.log d.feed.value in
    let later = sample_setting d.book log d.feed.value in
    let live = c.if-not-redeem.false in
    let apart = differ d.book d.log log d.feed.value handle (handle.site, values.Num (pos 100))
    (λ q. c.accept.ensures.results q ∙ ap (λ (results : List (ℕ × Value)). cond (same_cell handle.cell q) ((handle.site, values.Num (pos 100)) ∷ results) results) (c.in_ok-reserve.ensures.results q)) in
    let went = c.redeem.ensures.ended earlier later 1 r.state live apart r.running in
    let same = r.running.holds.functions ∙ sym went.holds.functions in
    let forgot = forgets d.feed.value d.feed.readings.items kept handle.cell
    (c.in_ok-readings.ensures ∙ ap (filter (λ e. not (is_among (handle.cell ∷ []) e.1))) c.as_slice.ensures.value) in
    let reads = c.redeem.ensures.reads earlier later 1 r.state live apart r.running (feed_state d.feed.value d.feed.readings.items) (feed_state d.feed.value kept) forgot r.reads in
    record {
      state = r.state;
      running = subst (λ functions. InRound (round_setting sample_answer (feed_state d.feed.value []).snapshot (results_of log) functions) 1 book r.state) same went;
      reads = subst (λ functions. ReadsInRound (round_setting sample_answer (feed_state d.feed.value []).snapshot (results_of log) functions) (feed_state d.feed.value kept) book) same reads;
      room = omega (arith, r.room, c.in_ok-reserve.ensures.room, c.accept.ensures.room);
    }
