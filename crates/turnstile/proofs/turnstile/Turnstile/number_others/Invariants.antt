-- The passes so far have the numbers from 1 on, and the next number is the maker's count.
use Rattle.std.proofs.Common.{◌≡◌, ◌+◌, ◌<◌, [], vec_len, vec_capacity}
use Rattle.turnstile.specs.Steps.{maker_of}
use Rattle.turnstile.specs.Making.{AreNew}
use Rattle.turnstile.proofs.turnstile.Turnstile.number_others.Given as goal

abbrev pub invariant-loop-number : goal.invariant-loop-number
invariant-loop-number g l =
    (l.self ≡ l.fn.self) × (l.maker.table_id ≡ l.fn.maker.table_id) × (vec_len l.passes + 1 ≡ l.number) × (vec_capacity l.passes ≡ vec_capacity l.fn.passes)
    × ((lab : g.row.V-Label.Denot) → l.fn.maker.me ≡ (maker_of lab 1, []) → (l.maker.me ≡ (maker_of lab l.number, [])) × AreNew l.self lab 1 l.passes.items)
