-- The line in force, and those after it.
use Rattle.std.proofs.Common.{◌≡◌, ◌-◌, ◌+◌, ℕ, List, [], ◌∷◌, ◌++◌, length, take, drop, sym, ◌∙◌, arith, append_assoc}
use Rattle.std.proofs.lemmas.List.{get_or_default, length-drop, take_all}
use Rattle.semantics.specs.declared.line.Line.{Line}
use Rattle.node_ramps.specs.Lines.{turned}
use Rattle.histories.specs.Track.{line_of, no_line}
use Rattle.histories.proofs.Joins.{tail_from}
use Rattle.histories.proofs.Parts.{from_place}
use Rattle.histories.proofs.Places.{in_bounds}
use Rattle.histories.proofs.track.Track.extend_from.Goals as goal

pub rebase-requires : goal.rebase-requires
rebase-requires c =
    let ls : List Line = c.self.inside.ramps.items in
    let p = rw (← c.self.view_is) at c.place-place.ensures in
    let is : c.index.result.now ≡ line_of ls c.place-place.result = c.index.ensures ∙ sym (get_or_default ls c.place-place.result no_line c.index.result.now p.inside) in
    record { in_bounds = rw is (in_bounds (line_of ls c.place-place.result) c.args.tick (c.self.invariant.bounded c.place-place.result no_line p.inside) p.started c.requires) }

-- what the code puts last is the part
joined : (out ls : List Line) (l : Line) (k : ℕ) (mid new : List Line) → mid ≡ out ++ l ∷ [] → new ≡ mid ++ take (length ls - (k + 1)) (drop (k + 1) ls) → new ≡ out ++ l ∷ drop (k + 1) ls
joined out ls l k mid new e f =
    let all : take (length ls - (k + 1)) (drop (k + 1) ls) ≡ drop (k + 1) ls = take_all (length ls - (k + 1)) (drop (k + 1) ls) (rw (length-drop (k + 1) ls) (omega arith)) in
    rw (f, e, all) (append_assoc out (l ∷ []) (drop (k + 1) ls))

pub returns : goal.returns
returns c =
    let ls : List Line = c.self.inside.ramps.items in
    let k : ℕ = c.place-place.result in
    let t : ℕ = c.args.tick in
    let p = rw (← c.self.view_is) at c.place-place.ensures in
    let l : Line = line_of ls k in
    let is : c.index.result.now ≡ l = c.index.ensures ∙ sym (get_or_default ls k no_line c.index.result.now p.inside) in
    let turn : c.rebase.result ≡ turned l t l.rate = rw is at c.rebase.ensures.line in
    let first = rw turn at c.in_ok-push.ensures.items in
    let whole = rw c.deref.ensures.value at c.in_ok-extend_from_slice.ensures.items in
    (from_place ls t k, rw (← c.self.view_is) (tail_from 0 t k ls c.self.invariant p), joined c.args.out.now.items ls (turned l t l.rate) k c.push.new.self.items c.extend_from_slice.new.self.items first whole)
