-- Sorted pieces, and what is against them.
use Rattle.std.proofs.Common.{◌∙◌, refl, sym, ap, inl}
use Rattle.std.proofs.lemmas.Bool.{false≢true}
use Rattle.window_run.specs.declared.stop.Stop.TheVariants.{End}
use Rattle.window_run.specs.Window.{rising_nodes}
use Rattle.window_run.proofs.Handed.{is_window, none_against, sorted, two_before}
use Rattle.window_run.proofs.window.Window.of.Goals as goal

pub returns-then-not-are_rising-clause-none : goal.returns-then-not-are_rising-clause-none
returns-then-not-are_rising-clause-none c = (
  (λ none. inl (two_before c.args.pieces.items c.by_node-pieces.result.items c.by_node-pieces.ensures.same c.by_node-pieces.ensures.rising (ap rising_nodes (sym c.deref-2.ensures.value) ∙ sym c.are_rising.ensures ∙ c.if-not-are_rising.true))),
  (λ against. refl),
)

pub invariant_of-result : goal.invariant_of-result
invariant_of-result c =
    let found = c.have_ends.ensures in
    let all = c.if-not-have_ends.false in
    let rising = sym c.are_rising.ensures ∙ c.if-not-are_rising.false in
    is_window c.args.from c.args.until End c.args.pieces.items c.by_node-pieces.result.items
    (sorted _ _ _ _ _ _ c.deref.ensures.value c.deref-2.ensures.value c.by_node-pieces.ensures.same (found.ends all) (found.shape all) rising)

pub returns-clause-window : goal.returns-clause-window
returns-clause-window c =
    let found = c.have_ends.ensures in
    let all = c.if-not-have_ends.false in
    let rising = sym c.are_rising.ensures ∙ c.if-not-are_rising.false in
    record {
      begins = refl;
      ends = refl;
      stop = refl;
      pieces = c.by_node-pieces.ensures.same;
      rising = (sorted c.args.from c.args.until _ _ _ _ c.deref.ensures.value c.deref-2.ensures.value c.by_node-pieces.ensures.same (found.ends all) (found.shape all) rising).rising;
    }

pub returns-clause-none : goal.returns-clause-none
returns-clause-none c =
    let found = c.have_ends.ensures in
    let all = c.if-not-have_ends.false in
    let rising = sym c.are_rising.ensures ∙ c.if-not-are_rising.false in (
      (λ none. absurd (false≢true (sym none))),
      (λ against. absurd (none_against c.args.from c.args.until c.args.pieces.items c.by_node-pieces.result.items
          (sorted _ _ _ _ _ _ c.deref.ensures.value c.deref-2.ensures.value c.by_node-pieces.ensures.same (found.ends all) (found.shape all) rising) against)),
    )
