-- The initial voltages after an edit.
use Rattle.std.proofs.Common.{◌≡◌, ◌≢◌, ◌↔◌, ℤ, pos, Bool, true, false, if◌then◌else◌, List, [], ◌∷◌, Option, Some, None, unwrap_or, refl, sym, ap, ◌∙◌}
use Rattle.std.specs.Str.{bytes_eq}
use Rattle.std.proofs.lemmas.Bool.{false≢true}
use Rattle.semantics.specs.Deck.{Name, DeckValue, initial_of, look_up}
use Rattle.semantics.proofs.Nodes.{bytes_eq-same, same-bytes_eq}
use Rattle.deck_cards.specs.declared.edit.Edit.{Edit}
use Rattle.deck_cards.specs.declared.edit.Edit.TheVariants.{SetR, SetC, SetWave, SetModel, SetIc, Add, Remove}
use Rattle.deck_cards.specs.Edits.{edited}
use Rattle.deck_cards.specs.Settled.{put}
use Rattle.edit_laws.specs.Changed.{Gives}

-- ---- the voltage that a list gives a name, after one more is put

-- what a name is given, where the head of the list gives it or not
abbrev at_head : Bool → ℤ → Option ℤ → Option ℤ
at_head b volts rest = elim (if b then Some volts else None) [ None ↦ rest | Some v ↦ Some v ]

-- the head has the name that is put
taken : (old volts : ℤ) (rest : Option ℤ) (b c : Bool) → b ≡ c → at_head b volts rest ≡ (if c then Some volts else at_head b old rest)
taken old volts rest true true same = refl
taken old volts rest false false same = refl
taken old volts rest true false same = absurd (false≢true (sym same))
taken old volts rest false true same = absurd (false≢true same)

-- the head has another name
passed : (old volts : ℤ) (rest put_rest : Option ℤ) (b c : Bool) → (b ≡ true → c ≡ true → ⊥) → put_rest ≡ (if c then Some volts else rest)
    → at_head b old put_rest ≡ (if c then Some volts else at_head b old rest)
passed old volts rest put_rest true true apart is = absurd (apart refl refl)
passed old volts rest put_rest true false apart is = refl
passed old volts rest put_rest false true apart is = is
passed old volts rest put_rest false false apart is = is

look_up-put : (n : Name) (ps : List (Name × ℤ)) (node : Name) (volts : ℤ) → look_up n (put ps (node, volts)) ≡ (if bytes_eq n node then Some volts else look_up n ps)
look_up-put n [] node volts = by (bytes_eq n node)
  where
    by : (b : Bool) → at_head b volts None ≡ (if b then Some volts else None)
    by true = refl
    by false = refl
look_up-put n (q ∷ ps) node volts = by (bytes_eq node q.0) refl (look_up-put n ps node volts)
  where
    apart : bytes_eq node q.0 ≡ false → bytes_eq n q.0 ≡ true → bytes_eq n node ≡ true → ⊥
    apart other at_q at_node = false≢true (sym other ∙ bytes_eq-same node q.0 (sym (same-bytes_eq n node at_node) ∙ same-bytes_eq n q.0 at_q))

    by : (a : Bool) → bytes_eq node q.0 ≡ a → look_up n (put ps (node, volts)) ≡ (if bytes_eq n node then Some volts else look_up n ps)
        → look_up n (if a then (q.0, volts) ∷ ps else q ∷ put ps (node, volts)) ≡ (if bytes_eq n node then Some volts else look_up n (q ∷ ps))
    by true is rest = taken q.1 volts (look_up n ps) (bytes_eq n q.0) (bytes_eq n node) (ap (bytes_eq n) (sym (same-bytes_eq node q.0 is)))
    by false is rest = passed q.1 volts (look_up n ps) (look_up n (put ps (node, volts))) (bytes_eq n q.0) (bytes_eq n node) (apart is) rest

voltage : (b : Bool) (volts : ℤ) (rest : Option ℤ) → unwrap_or (if b then Some volts else rest) (pos 0) ≡ (if b then volts else unwrap_or rest (pos 0))
voltage true volts rest = refl
voltage false volts rest = refl

pub given_after : (d : DeckValue) (node n : Name) (volts : ℤ) → initial_of (edited d (SetIc node volts)) n ≡ (if bytes_eq n node then volts else initial_of d n)
unfolding edited initial_of
given_after d node n volts = ap (λ o. unwrap_or o (pos 0)) (look_up-put n d.initial node volts) ∙ voltage (bytes_eq n node) volts (look_up n d.initial)

-- ---- where it is another one

abbrev gives_any : Edit → Bool
gives_any (SetIc node volts) = true
gives_any (SetR name ohms) = false
gives_any (SetC name farads) = false
gives_any (SetWave name wave) = false
gives_any (SetModel name part) = false
gives_any (Add element) = false
gives_any (Remove name) = false

abbrev node_of : Edit → Name
node_of (SetIc node volts) = node
node_of (SetR name ohms) = name
node_of (SetC name farads) = name
node_of (SetWave name wave) = name
node_of (SetModel name part) = name
node_of (Add element) = []
node_of (Remove name) = name

abbrev volts_of : Edit → ℤ
volts_of (SetIc node volts) = volts
volts_of (SetR name ohms) = ohms
volts_of (SetC name farads) = farads
volts_of (SetWave name wave) = pos 0
volts_of (SetModel name part) = pos 0
volts_of (Add element) = pos 0
volts_of (Remove name) = pos 0

-- an edit that gives no initial voltage
gives_none : (d : DeckValue) (e : Edit) (n : Name) → gives_any e ≡ false → initial_of d n ≡ initial_of (edited d e) n → (initial_of d n ≢ initial_of (edited d e) n) ↔ Gives d e n
gives_none d e n none same = (λ other. absurd (other same), λ g. absurd (false≢true (sym none ∙ ap gives_any g.is)))

gives_one : (d : DeckValue) (node n : Name) (volts : ℤ) → (initial_of d n ≢ initial_of (edited d (SetIc node volts)) n) ↔ Gives d (SetIc node volts) n
gives_one d node n volts = (to (bytes_eq n node) refl, from)
  where
    now : (b : Bool) → bytes_eq n node ≡ b → initial_of (edited d (SetIc node volts)) n ≡ (if b then volts else initial_of d n)
    now b is = given_after d node n volts ∙ ap (λ x. if x then volts else initial_of d n) is

    to : (b : Bool) → bytes_eq n node ≡ b → initial_of d n ≢ initial_of (edited d (SetIc node volts)) n → Gives d (SetIc node volts) n
    to true is other = record { volts = volts; is = ap (λ m. SetIc m volts) (sym (same-bytes_eq n node is)); other = λ same. other (same ∙ sym (now true is)) }
    to false is other = absurd (other (sym (now false is)))

    from : Gives d (SetIc node volts) n → initial_of d n ≢ initial_of (edited d (SetIc node volts)) n
    from g same = g.other (same ∙ (now true (bytes_eq-same n node (sym (ap node_of g.is))) ∙ ap volts_of g.is))

pub initial_after : (d : DeckValue) (e : Edit) (n : Name) → (initial_of d n ≢ initial_of (edited d e) n) ↔ Gives d e n
unfolding edited initial_of
initial_after d (SetR name ohms) n = gives_none d (SetR name ohms) n refl refl
initial_after d (SetC name farads) n = gives_none d (SetC name farads) n refl refl
initial_after d (SetWave name wave) n = gives_none d (SetWave name wave) n refl refl
initial_after d (SetModel name part) n = gives_none d (SetModel name part) n refl refl
initial_after d (SetIc node volts) n = gives_one d node n volts
initial_after d (Add e) n = gives_none d (Add e) n refl refl
initial_after d (Remove name) n = gives_none d (Remove name) n refl refl
