-- What is printed without a script, and the numbers that are shown.
use Rattle.std.proofs.Common.{◌≡◌, ℕ, ◌≤◌, ◌+◌, Bool, true, false, ◌&&◌, ◌||◌, not, if◌then◌else◌, nat_le, List, [], ◌∷◌, ◌++◌, length, map, take, Option, Some, None, Ok, Err, refl, sym, ◌∙◌, ap, arith, subst}
use Rattle.std.specs.List.{flat_map, list_any}
use Rattle.std.specs.Str.{bytes_eq}
use Rattle.std.proofs.lemmas.Bool.{and_parts, eqb-true, leb-true}
use Rattle.std.proofs.lemmas.List.{length-append}
use Rattle.semantics.specs.Deck.{DeckValue, Name, nodes}
use Rattle.semantics.specs.Text.{default_output, version_text, wave_text}
use Rattle.semantics.specs.Wave.{wave}
use Rattle.deck_cards.specs.declared.edit.Edit.{Edit}
use Rattle.deck_cards.specs.declared.edit_refusal.EditRefusal.{EditRefusal}
use Rattle.deck_cards.specs.Edits.{after, edit_cause}
use Rattle.deck_cards.proofs.Named.{name_itself}
use Rattle.version_book.specs.Version.{is_node}
use Rattle.wave_script.specs.declared.command.Command.{Command}
use Rattle.wave_script.specs.declared.command.Command.TheVariants as command
use Rattle.wave_text.specs.Shown.{show_text, shown}
use Rattle.script_session.specs.Session.{SessionValue, may_show, moved, opened, says, version, with_edit, default_script, IsOutput, Plays, Prints}

-- ---- without a script

-- of the names of nodes, each is one
abbrev AreNodes : DeckValue → List Name → Type 0
AreNodes d [] = Unit {0}
AreNodes d (n ∷ ns) = (is_node d n ≡ true) × AreNodes d ns

version_0 : (d : DeckValue) → version (opened d) 0 ≡ d
unfolding after
version_0 d = refl

shows : (d : DeckValue) (n : Name) → is_node d n ≡ true → show_text (version (opened d) 0) n None ≡ wave_text n (wave d n)
unfolding show_text shown
shows d n is = ap (λ x. show_text x n None) (version_0 d) ∙ rw is refl

prints_nodes : (d : DeckValue) (ns : List Name) → AreNodes d ns → Prints (opened d) (map (λ n. (1, command.Show n None)) ns) (flat_map (λ n. wave_text n (wave d n)) ns)
unfolding says moved may_show
prints_nodes d [] are = refl
prints_nodes d (n ∷ ns) are = (
  opened d,
  wave_text n (wave d n),
  flat_map (λ m. wave_text m (wave d m)) ns,
  record { number = 0; may = refl; text_is = sym (shows d n are.0); next_is = refl },
  prints_nodes d ns are.1,
  refl,
)

or_right : (a b : Bool) → b ≡ true → (a || b) ≡ true
or_right true b is = refl
or_right false b is = is

-- the names of a list are among those that it is a part of
are_nodes : (d : DeckValue) (ns : List Name) → ((n : Name) → list_any (bytes_eq n) ns ≡ true → is_node d n ≡ true) → AreNodes d ns
are_nodes d [] among = tt
are_nodes d (n ∷ ns) among = (
  among n (rw (name_itself n) refl),
  are_nodes d ns (λ m is. among m (or_right (bytes_eq m n) (list_any (bytes_eq m) ns) is)),
)

pub prints_default : (d : DeckValue) → IsOutput d (default_script d) (default_output d)
unfolding says moved may_show default_output
prints_default d = (
  opened d,
  version_text 0,
  flat_map (λ n. wave_text n (wave d n)) (nodes d),
  record { number = 0; may = refl; text_is = refl; next_is = refl },
  prints_nodes d (nodes d) (are_nodes d (nodes d) (λ n is. is)),
  refl,
)

-- ---- numbers

pub looks_at_all : (s : SessionValue) (k : ℕ) → s.reached ≡ length s.edits → may_show s k command.Look ≡ true → k ≡ length s.edits
unfolding may_show
looks_at_all s k all may =
    let both = and_parts (nat_le s.reached k) (nat_le k (length s.edits)) may in
    let low = leb-true s.reached k both.0 in
    let high = leb-true k (length s.edits) both.1 in
    omega (arith, all, low, high)

-- what an edit leaves of the numbers
edit_keeps : (s : SessionValue) (e : Edit) → s.reached ≤ length s.edits → (s.reached ≤ (with_edit s e).reached) × ((with_edit s e).reached ≤ length (with_edit s e).edits)
unfolding with_edit
edit_keeps s e within = by (edit_cause (after s.base s.edits) e)
  where
    next : Option EditRefusal → SessionValue
    next o = elim o [ None ↦ record s { edits = s.edits ++ e ∷ [] } | Some cause ↦ s ]

    by : (o : Option EditRefusal) → (s.reached ≤ (next o).reached) × ((next o).reached ≤ length (next o).edits)
    by None = let longer = length-append s.edits (e ∷ []) in (omega arith, omega (arith, within, longer))
    by (Some cause) = (omega arith, within)

pub rises : (s : SessionValue) (line : ℕ) (c : Command) (text : List ℕ) (next : SessionValue) → s.reached ≤ length s.edits → Plays s line c text next
    → (s.reached ≤ next.reached) × (next.reached ≤ length next.edits)
unfolding moved may_show
rises s line c text next within p = subst (λ n. (s.reached ≤ n.reached) × (n.reached ≤ length n.edits)) (sym p.next_is) (by c p.may)
  where
    by : (c : Command) → may_show s p.number c ≡ true → (s.reached ≤ (moved s p.number c).reached) × ((moved s p.number c).reached ≤ length (moved s p.number c).edits)
    by (command.Edit e) may = edit_keeps s e within
    by command.Run may = let all = eqb-true p.number (length s.edits) may in (omega (arith, within, all), omega (arith, all))
    by command.Look may =
        let both = and_parts (nat_le s.reached p.number) (nat_le p.number (length s.edits)) may in
        (leb-true s.reached p.number both.0, leb-true p.number (length s.edits) both.1)
    by (command.Show node range) may = (omega arith, within)
    by (command.Events range) may = (omega arith, within)
    by (command.Pin name) may = (omega arith, within)
    by (command.UsePin name) may = (omega arith, within)
    by (command.Unpin name) may = (omega arith, within)
    by command.Work may = (omega arith, within)
