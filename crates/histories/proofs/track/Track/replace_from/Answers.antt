-- The lines before the tick, and these.
use Rattle.std.proofs.Common.{◌≡◌, ℕ, ◌<◌, ◌≤◌, Bool, true, false, cond, List, ◌++◌, length, take, refl, ap, ◌∙◌, arith, Result, Ok, Err}
use Rattle.std.specs.Prelude.{OnOk}
use Rattle.std.specs.Result.{is_ok}
use Rattle.std.proofs.lemmas.Bool.{le-ltb}
use Rattle.std.proofs.lemmas.Result.{on_ok_weaker}
use Rattle.semantics.specs.declared.line.Line.{Line}
use Rattle.histories.specs.Track.{IsTrack}
use Rattle.histories.proofs.Joins.{at_start, before_take, replaced, track_join, track_take}
use Rattle.histories.proofs.track.Track.replace_from.Goals as goal

pub invariant_of-self : goal.invariant_of-self
invariant_of-self c =
    let tick : c.args.tick ≡ 0 = at_start c.args.self.now c.args.tick c.count_before-keep.result (rw (← c.self.view_is) c.self.invariant) c.if-keep-eq0.true c.count_before-keep.ensures.after in
    rw tick at c.requires

pub returns-then-keep-eq0-clause-ok : goal.returns-then-keep-eq0-clause-ok
returns-then-keep-eq0-clause-ok c = λ t.
    let tick : c.args.tick ≡ 0 = at_start c.args.self.now c.args.tick c.count_before-keep.result (rw (← c.self.view_is) c.self.invariant) c.if-keep-eq0.true c.count_before-keep.ensures.after in
    rw (le-ltb t c.args.tick (omega (arith, tick))) refl

-- what the append leaves, done or not
appended : (b : Bool) (new mid xs : List Line) → new ≡ cond b (mid ++ xs) mid → IsTrack 0 (mid ++ xs) → IsTrack 0 mid → IsTrack 0 new
appended true new mid xs e both front = rw e both
appended false new mid xs e both front = rw e front

done : {E : Type 0} (r : Result (Unit {0}) E) (new mid xs : List Line) → new ≡ cond (is_ok r) (mid ++ xs) mid → OnOk r (new ≡ mid ++ xs)
done (Ok x) new mid xs e = e
done (Err d) new mid xs e = tt

pub invariant_of-self-2 : goal.invariant_of-self-2
invariant_of-self-2 c =
    let ls : List Line = c.self.inside.ramps.items in
    let k : ℕ = c.count_before-keep.result in
    let by : k ≤ length ls = rw (← c.self.view_is) at c.count_before-keep.ensures.count in
    let before = rw (← c.self.view_is) at c.count_before-keep.ensures.before in
    let some : 0 < k = omega (arith, c.if-keep-eq0.false) in
    let cut : c.truncate.new.self.items ≡ take k ls = c.truncate.ensures.items ∙ ap (λ xs. take k xs) c.in_ok-reserve.ensures.items in
    let front : IsTrack 0 (take k ls) = track_take 0 k ls c.self.invariant some by in
    appended (is_ok c.append.result) c.append.new.self.items (take k ls) c.args.ramps.items (rw cut at c.append.ensures.items) (track_join 0 c.args.tick (take k ls) c.args.ramps.items front (before_take c.args.tick k ls by before) c.requires) front

pub returns-clause-ok : goal.returns-clause-ok
returns-clause-ok c =
    let ls : List Line = c.self.inside.ramps.items in
    let k : ℕ = c.count_before-keep.result in
    let by : k ≤ length ls = rw (← c.self.view_is) at c.count_before-keep.ensures.count in
    let before = rw (← c.self.view_is) at c.count_before-keep.ensures.before in
    let after = rw (← c.self.view_is) at c.count_before-keep.ensures.after in
    let some : 0 < k = omega (arith, c.if-keep-eq0.false) in
    let cut : c.truncate.new.self.items ≡ take k ls = c.truncate.ensures.items ∙ ap (λ xs. take k xs) c.in_ok-reserve.ensures.items in
    let joined = done c.append.result c.append.new.self.items (take k ls) c.args.ramps.items (rw cut at c.append.ensures.items) in
    rw (← c.self.view_is) (on_ok_weaker c.append.result (λ (e : c.append.new.self.items ≡ take k ls ++ c.args.ramps.items). λ t. rw e (replaced ls c.args.ramps.items c.args.tick k c.requires.lines some by before after t)) joined)
