-- Each step keeps the rule, over plain data.
use Rattle.std.proofs.Common.{if◌then◌else◌, Bool, true, false, ◌==◌, ◌≡◌, ◌≢◌, ◌⊎◌, ℕ, zero, suc, ◌+◌, ◌^◌, ◌<◌, ◌≤◌, max, List, [], ◌∷◌, ◌++◌, length, set, Some, None, Option, refl, sym, ap, ◌∙◌, subst, ⊎_elim, inl, inr, arith, nat_lt, append_assoc, append-nil}
use mathlib.Core.Option.{none, some, some-ne-none, some-injective}
use mathlib.Core.Option as maybe
use mathlib.Core.Logic.{dite}
use Rattle.std.proofs.lemmas.Bool.Decides.{nat_tests}
use native.Mathlib.Decide.{ℕ_discrete}
use lib.ListN.{get_elem?}
use Rattle.atomic_table.proofs.Lists.{at_set, set_here, set_else, at_longer}
use Rattle.turnstile.specs.declared.view.Past.{Past}
use Rattle.turnstile.specs.declared.view.Known.{Known}
use Rattle.turnstile.specs.declared.view.Stage.{Stage}
use Rattle.turnstile.specs.declared.view.Stage.TheVariants.{Idle, Joined, Waits, Holds}
use Rattle.turnstile.specs.declared.view.View.{View}
use Rattle.turnstile.specs.declared.view.View.TheVariants.{Spent, Live}
use Rattle.turnstile.specs.Lists.{Has, NoneBy, Begins, AllBelow, OneMore, entries_of, longer}
use Rattle.turnstile.specs.Rule.{numbers, StageOk, KnownOk, ViewOk, IsHolding, SlotOk, Kept, PastOk}
use Rattle.turnstile.specs.Steps.{opener, counted, newcomer, past, both, merged}

-- f, but y at x
abbrev pub put : (ℕ → ℕ) → ℕ → ℕ → ℕ → ℕ
put f x y z = dite (ℕ_discrete z x) (λ _. y) (λ _. f z)

dite_yes : {A : Type 0} {P : Type 0} (d : Dec P) (a b : A) → P → dite d (λ _. a) (λ _. b) ≡ a
dite_yes (yes p) a b q = refl
dite_yes (no n) a b q = absurd (n q)

dite_no : {A : Type 0} {P : Type 0} (d : Dec P) (a b : A) → (P → ⊥) → dite d (λ _. a) (λ _. b) ≡ b
dite_no (yes p) a b n = absurd (n p)
dite_no (no q) a b n = refl

pub put_here : (f : ℕ → ℕ) (x y : ℕ) → put f x y x ≡ y
put_here f x y = dite_yes (ℕ_discrete x x) y (f x) refl

pub put_else : (f : ℕ → ℕ) (x y z : ℕ) → z ≢ x → put f x y z ≡ f z
put_else f x y z ne = dite_no (ℕ_discrete z x) y (f z) ne

module _ {E : Type 0} (maker : E → ℕ) where
  none_snoc : (ks : List ℕ) (es : List E) (e : E) → NoneBy maker ks es → (Has ks (maker e) → ⊥) → NoneBy maker ks (es ++ e ∷ [])
  none_snoc ks [] e h n = (n, tt)
  none_snoc ks (x ∷ es) e h n = (h.0, none_snoc ks es e h.1 n)

  pub begins_snoc : (list seen : List E) (ks : List ℕ) (e : E) → Begins maker list seen ks → (Has ks (maker e) → ⊥) → Begins maker (list ++ e ∷ []) seen ks
  begins_snoc list seen ks e h n = (h.0 ++ e ∷ [], ap (λ (l : List E). l ++ e ∷ []) h.1 ∙ append_assoc seen h.0 (e ∷ []), none_snoc ks h.0 e h.2 n)

  below_snoc : (n : ℕ) (es : List E) (e : E) → AllBelow maker n es → maker e < n → AllBelow maker n (es ++ e ∷ [])
  below_snoc n [] e h l = (l, tt)
  below_snoc n (x ∷ es) e h l = (h.0, below_snoc n es e h.1 l)

  pub begins_all : (list : List E) (ks : List ℕ) → Begins maker list list ks
  begins_all list ks = ([], sym (append-nil list), tt)

-- a fact about each view, after a change of one
module _ {A : Type 0} where
  pub each_set : (K : ℕ → A → Type 0) (vs : List A) (me : ℕ) (w : A) → K me w → ((j : ℕ) (u : A) → j ≢ me → get_elem? vs j ≡ some u → K j u)
      → (j : ℕ) (u : A) → get_elem? (set vs me w) j ≡ some u → K j u
  each_set K vs me w mine others j u e = ⊎_elim (λ (t : (j ≡ me) × (w ≡ u)). subst (λ (x : ℕ × A). K x.0 x.1) (λ i. (sym t.0 i, t.1 i)) mine)
      (λ (t : (j ≢ me) × (get_elem? vs j ≡ some u)). others j u t.0 t.1) (at_set vs me j w u e)

module _ {A : Type 0} where
  pub set_there : (vs : List A) (i : ℕ) (a b : A) → get_elem? vs i ≡ some a → get_elem? (set vs i b) i ≡ some b
  set_there [] i a b e = absurd (some-ne-none a (sym e))
  set_there (x ∷ xs) zero a b e = refl
  set_there (x ∷ xs) (suc i) a b e = set_there xs i a b e

module _ {A : Type 0} where
  pub at_snoc_at : (l : List A) (a b : A) (j : ℕ) → get_elem? (l ++ a ∷ []) j ≡ some b → (get_elem? l j ≡ some b) ⊎ ((j ≡ length l) × (a ≡ b))
  at_snoc_at [] a b zero e = inr (refl, some-injective a b e)
  at_snoc_at [] a b (suc j) e = absurd (some-ne-none b (sym e))
  at_snoc_at (x ∷ xs) a b zero e = inl e
  at_snoc_at (x ∷ xs) a b (suc j) e = ⊎_elim inl (λ (t : (j ≡ length xs) × (a ≡ b)). inr (ap suc t.0, t.1)) (at_snoc_at xs a b j e)

  pub at_below : (l : List A) (j : ℕ) (b : A) → get_elem? l j ≡ some b → j < length l
  at_below [] j b e = absurd (some-ne-none b (sym e))
  at_below (x ∷ xs) zero b e = omega arith
  at_below (x ∷ xs) (suc j) b e = let h = at_below xs j b e in omega arith

  pub length_set : (l : List A) (i : ℕ) (a : A) → length (set l i a) ≡ length l
  length_set [] i a = refl
  length_set (x ∷ xs) zero a = refl
  length_set (x ∷ xs) (suc i) a = ap suc (length_set xs i a)

module _ {V E L : Type 0} (turns : V → List E) (maker : E → ℕ) (label : V → L) where
  -- a seat that does not have the slot may change its view
  slot_stays : (views : List (View E L)) (list : List E) (lab : L) (holder : maybe.Option ℕ) (home : maybe.Option (maybe.Option (Option V))) (id : ℕ) (w : View E L) → holder ≢ some id
      → SlotOk turns label views list lab holder home → SlotOk turns label (set views id w) list lab holder home
  slot_stays views list lab none home id w ne h = h
  slot_stays views list lab (some p) home id w ne h = (h.0, (h.1.0, set_else views id p w (λ (e : p ≡ id). ne (ap some e)) ∙ h.1.1, h.1.2))

  -- one ticket more is drawn, by the seat id
  stage_drawn : (served drawn count : ℕ) (list : List E) (owner drawer : ℕ → ℕ) (holder : maybe.Option ℕ) (id j : ℕ) (stage : Stage E)
      → StageOk maker served drawn count list owner drawer holder j stage → StageOk maker served (drawn + 1) count list owner (put drawer drawn id) holder j stage
  stage_drawn served drawn count list owner drawer holder id j Idle h = h
  stage_drawn served drawn count list owner drawer holder id j (Joined p q) h = h
  stage_drawn served drawn count list owner drawer holder id j (Waits t) h = (h.0, h.1, (let a = h.2 in omega arith), put_else drawer drawn id t (λ e. let a = h.2 in omega arith) ∙ h.3)
  stage_drawn served drawn count list owner drawer holder id j (Holds t found) h = (h.0, h.1, (let a = h.2 in omega arith), put_else drawer drawn id t (λ e. let a = h.2 in omega arith) ∙ h.3, h.4)

  view_drawn : (served drawn count : ℕ) (list : List E) (lab : L) (owner drawer : ℕ → ℕ) (holder : maybe.Option ℕ) (id j : ℕ) (u : View E L)
      → ViewOk maker served drawn count list lab owner drawer holder j u → ViewOk maker served (drawn + 1) count list lab owner (put drawer drawn id) holder j u
  view_drawn served drawn count list lab owner drawer holder id j Spent h = h
  view_drawn served drawn count list lab owner drawer holder id j (Live v) h = record { label = h.label; stage = stage_drawn served drawn count list owner drawer holder id j v.stage h.stage; seen = h.seen; numbered = h.numbered; counts = h.counts; limit = h.limit }

  abbrev Rule : ℕ → ℕ → maybe.Option (maybe.Option (Option V)) → List (View E L) → Type 0
  Rule = Kept turns maker label

  pub draws : (served drawn : ℕ) (home : maybe.Option (maybe.Option (Option V))) (views : List (View E L)) (id : ℕ) (v : Known E L) → v.stage ≡ Idle → drawn + 1 < 2 ^ 64
      → get_elem? views id ≡ some (Live v) → Rule served drawn home views → Rule served (drawn + 1) home (set views id (Live record v { stage = Waits drawn }))
  draws served drawn home views id v idle room at k = let mine = k.each id (Live v) at in let free : k.holder ≢ some id = subst (λ (s : Stage E). StageOk maker served drawn k.count k.list k.owner k.drawer k.holder id s) idle mine.stage in
      record {
        list = k.list;
        lab = k.lab;
        count = k.count;
        owner = k.owner;
        drawer = put k.drawer drawn id;
        holder = k.holder;
        order = (let a = k.order in omega arith);
        fits = room;
        slot = slot_stays views k.list k.lab k.holder home id (Live record v { stage = Waits drawn }) free k.slot;
        each = each_set (λ j u. ViewOk maker served (drawn + 1) k.count k.list k.lab k.owner (put k.drawer drawn id) k.holder j u) views id (Live record v { stage = Waits drawn })
            (record { label = mine.label; stage = (free, k.order, (omega arith), put_here k.drawer drawn id); seen = mine.seen; numbered = mine.numbered; counts = mine.counts; limit = mine.limit })
            (λ j u ne e. view_drawn served drawn k.count k.list k.lab k.owner k.drawer k.holder id j u (k.each j u e));
        below = k.below;
      }

  -- the seat id has the slot now
  stage_taken : (served drawn count : ℕ) (list : List E) (owner drawer : ℕ → ℕ) (id j : ℕ) (stage : Stage E) → j ≢ id
      → StageOk maker served drawn count list owner drawer none j stage → StageOk maker served drawn count list owner drawer (some id) j stage
  stage_taken served drawn count list owner drawer id j Idle ne h = λ e. ne (sym (some-injective id j e))
  stage_taken served drawn count list owner drawer id j (Joined p q) ne h = ((λ e. ne (sym (some-injective id j e))), h.1, h.2)
  stage_taken served drawn count list owner drawer id j (Waits t) ne h = ((λ e. ne (sym (some-injective id j e))), h.1, h.2, h.3)
  stage_taken served drawn count list owner drawer id j (Holds t found) ne h = absurd (some-ne-none j (sym h.0))

  view_taken : (served drawn count : ℕ) (list : List E) (lab : L) (owner drawer : ℕ → ℕ) (id j : ℕ) (u : View E L) → j ≢ id
      → ViewOk maker served drawn count list lab owner drawer none j u → ViewOk maker served drawn count list lab owner drawer (some id) j u
  view_taken served drawn count list lab owner drawer id j Spent ne h = λ e. ne (sym (some-injective id j e))
  view_taken served drawn count list lab owner drawer id j (Live v) ne h = record { label = h.label; stage = stage_taken served drawn count list owner drawer id j v.stage ne h.stage; seen = h.seen; numbered = h.numbered; counts = h.counts; limit = h.limit }

  -- who waits for the ticket that is served finds the slot at home
  none_holds : (served drawn count : ℕ) (list : List E) (lab : L) (owner drawer : ℕ → ℕ) (id : ℕ) (views : List (View E L)) (home : maybe.Option (maybe.Option (Option V))) (holder : maybe.Option ℕ)
      → holder ≢ some id → drawer served ≡ id → SlotOk turns label views list lab holder home
      → ((j : ℕ) (u : View E L) → get_elem? views j ≡ some u → ViewOk maker served drawn count list lab owner drawer holder j u) → holder ≡ none
  none_holds served drawn count list lab owner drawer id views home none ne is slot each = refl
  none_holds served drawn count list lab owner drawer id views home (some p) ne is slot each =
      let (t, found, v, e) = slot.1.2 in
      let ok = each p (Live record v { stage = Holds t found }) (slot.1.1 ∙ ap some e) in
      absurd (ne (ap some (sym ok.stage.3 ∙ ap drawer ok.stage.1 ∙ is)))

  at_home : (views : List (View E L)) (list : List E) (lab : L) (holder : maybe.Option ℕ) (home : maybe.Option (maybe.Option (Option V))) → holder ≡ none
      → SlotOk turns label views list lab holder home → SlotOk turns label views list lab none home
  at_home views list lab holder home e h = subst (λ (x : maybe.Option ℕ). SlotOk turns label views list lab x home) e h

  pub takes : (served drawn : ℕ) (home : maybe.Option (maybe.Option (Option V))) (views : List (View E L)) (id : ℕ) (v : Known E L) → v.stage ≡ Waits served
      → get_elem? views id ≡ some (Live v) → Rule served drawn home views
      → (x : V) × (home ≡ some (some (Some x))) × Begins maker (turns x) v.seen (numbers v) × (v.label ≡ label x)
      × Rule served drawn (some none) (set views id (Live record v { stage = Holds served (turns x) }))
  takes served drawn home views id v waits at k =
      let mine = k.each id (Live v) at in
      let stage = subst (λ (s : Stage E). StageOk maker served drawn k.count k.list k.owner k.drawer k.holder id s) waits mine.stage in
      let free = none_holds served drawn k.count k.list k.lab k.owner k.drawer id views home k.holder stage.0 stage.3 k.slot k.each in
      let h = at_home views k.list k.lab k.holder home free k.slot in
      let new : View E L = Live record v { stage = Holds served (turns h.0) } in (
        h.0,
        h.1,
        subst (λ (l : List E). Begins maker l v.seen (numbers v)) (sym h.2) mine.seen,
        mine.label ∙ sym h.3,
        record {
          list = k.list;
          lab = k.lab;
          count = k.count;
          owner = k.owner;
          drawer = k.drawer;
          holder = some id;
          order = k.order;
          fits = k.fits;
          slot = (refl, (new, set_there views id (Live v) new at, (served, turns h.0, v, refl)));
          each = each_set (λ j u. ViewOk maker served drawn k.count k.list k.lab k.owner k.drawer (some id) j u) views id new
              (record { label = mine.label; stage = (refl, refl, stage.2, stage.3, h.2); seen = mine.seen; numbered = mine.numbered; counts = mine.counts; limit = mine.limit })
              (λ j u ne e. view_taken served drawn k.count k.list k.lab k.owner k.drawer id j u ne (subst (λ (x : maybe.Option ℕ). ViewOk maker served drawn k.count k.list k.lab k.owner k.drawer x j u) free (k.each j u e)));
          below = k.below;
        },
      )

  -- what the turn of the number n leaves of a beginning that lacks that number
  begins_more : (found seen : List E) (ks : List ℕ) (n : ℕ) (x : V) → OneMore maker n found (turns x) → (Has ks n → ⊥) → Begins maker found seen ks → Begins maker (turns x) seen ks
  begins_more found seen ks n x m lacks h = ⊎_elim
      (λ (e : turns x ≡ found). subst (λ (l : List E). Begins maker l seen ks) (sym e) h)
      (λ (e : (y : E) × (turns x ≡ found ++ y ∷ []) × (maker y ≡ n)). subst (λ (l : List E). Begins maker l seen ks) (sym e.1) (begins_snoc maker found seen ks e.0 h (λ (b : Has ks (maker e.0)). lacks (subst (Has ks) e.2 b))))
      m

  below_more : (count : ℕ) (found : List E) (n : ℕ) (x : V) → OneMore maker n found (turns x) → n < count → AllBelow maker count found → AllBelow maker count (turns x)
  below_more count found n x m small h = ⊎_elim
      (λ (e : turns x ≡ found). subst (λ (l : List E). AllBelow maker count l) (sym e) h)
      (λ (e : (y : E) × (turns x ≡ found ++ y ∷ []) × (maker y ≡ n)). subst (λ (l : List E). AllBelow maker count l) (sym e.1) (below_snoc maker count found e.0 h (subst (λ (k : ℕ). k < count) (sym e.2) small)))
      m

  -- the turn of the seat id, whose number is n, is over
  module _ (served drawn count : ℕ) (list : List E) (lab : L) (owner drawer : ℕ → ℕ) (id n : ℕ) (x : V) (m : OneMore maker n list (turns x)) (mine : owner n ≡ id) (ticket : drawer served ≡ id) where
    past_served : (j : ℕ) (p : Past E) → j ≢ id → PastOk maker served drawn count list owner drawer (some id) j p → PastOk maker (served + 1) drawn count (turns x) owner drawer none j p
    past_served j p ne h = (begins_more list p.seen p.numbers n x m (λ b. ne (sym (h.1 n b).0 ∙ mine)) h.0, h.1)

    stage_served : (j : ℕ) (stage : Stage E) → j ≢ id → StageOk maker served drawn count list owner drawer (some id) j stage → StageOk maker (served + 1) drawn count (turns x) owner drawer none j stage
    stage_served j Idle ne h = λ e. some-ne-none j (sym e)
    stage_served j (Joined p q) ne h = ((λ e. some-ne-none j (sym e)), past_served j p ne h.1, past_served j q ne h.2)
    stage_served j (Waits t) ne h =
        let other : t ≢ served = (λ e. ne (sym h.3 ∙ ap drawer e ∙ ticket)) in
        let low = h.1 in
        ((λ e. some-ne-none j (sym e)), omega arith, h.2, h.3)
    stage_served j (Holds t found) ne h = absurd (ne (sym (some-injective id j h.0)))

    view_served : (j : ℕ) (u : View E L) → j ≢ id → ViewOk maker served drawn count list lab owner drawer (some id) j u → ViewOk maker (served + 1) drawn count (turns x) lab owner drawer none j u
    view_served j Spent ne h = λ e. some-ne-none j (sym e)
    view_served j (Live v) ne h = record { label = h.label; stage = stage_served j v.stage ne h.stage; seen = begins_more list v.seen (numbers v) n x m (λ b. ne (sym (h.numbered n b).0 ∙ mine)) h.seen; numbered = h.numbered; counts = h.counts; limit = h.limit }

  pub serves : (served drawn : ℕ) (home : maybe.Option (maybe.Option (Option V))) (views : List (View E L)) (id : ℕ) (v : Known E L) (t : ℕ) (found : List E) (x : V) → v.stage ≡ Holds t found
      → OneMore maker v.number found (turns x) → label x ≡ v.label → get_elem? views id ≡ some (Live v) → Rule served drawn home views
      → (served < drawn) × (drawn < 2 ^ 64) × (home ≡ some none) × Begins maker found v.seen (numbers v) × Rule (served + 1) drawn (some (some (Some x))) (set views id (Live record v { stage = Idle; seen = turns x }))
  serves served drawn home views id v t found x holds more same at k =
      let mine = k.each id (Live v) at in
      let stage = subst (λ (s : Stage E). StageOk maker served drawn k.count k.list k.owner k.drawer k.holder id s) holds mine.stage in
      let low : served < drawn = subst (λ (z : ℕ). z < drawn) stage.1 stage.2 in
      let ticket : k.drawer served ≡ id = ap k.drawer (sym stage.1) ∙ stage.3 in
      let m : OneMore maker v.number k.list (turns x) = subst (λ (l : List E). OneMore maker v.number l (turns x)) stage.4 more in
      let has : Has (numbers v) v.number = inl refl in
      let here = mine.numbered v.number has in
      let new : View E L = Live record v { stage = Idle; seen = turns x } in (
        low,
        k.fits,
        (subst (λ (h : maybe.Option ℕ). SlotOk turns label views k.list k.lab h home) stage.0 k.slot).0,
        subst (λ (l : List E). Begins maker l v.seen (numbers v)) (sym stage.4) mine.seen,
        record {
          list = turns x;
          lab = k.lab;
          count = k.count;
          owner = k.owner;
          drawer = k.drawer;
          holder = none;
          order = omega arith;
          fits = k.fits;
          slot = (x, refl, refl, same ∙ mine.label);
          each = each_set (λ j u. ViewOk maker (served + 1) drawn k.count (turns x) k.lab k.owner k.drawer none j u) views id new
              (record { label = mine.label; stage = (λ e. some-ne-none id (sym e)); seen = begins_all maker (turns x) (numbers v); numbered = mine.numbered; counts = mine.counts; limit = mine.limit })
              (λ j u ne e. view_served served drawn k.count k.list k.lab k.owner k.drawer id v.number x m here.0 ticket j u ne
              (subst (λ (h : maybe.Option ℕ). ViewOk maker served drawn k.count k.list k.lab k.owner k.drawer h j u) stage.0 (k.each j u e)));
          below = below_more k.count k.list v.number x m here.1 k.below;
        },
      )

  pub opens : (x : V) → turns x ≡ [] → Rule 0 0 (some (some (Some x))) (opener (label x) ∷ [])
  opens x empty = record {
    list = [];
    lab = label x;
    count = 1;
    owner = λ _. 0;
    drawer = λ _. 0;
    holder = none;
    order = omega arith;
    fits = omega arith;
    slot = (x, refl, empty, refl);
    each = each_first;
    below = tt;
  } where
    each_first : (seat : ℕ) (w : View E L) → get_elem? (opener (label x) ∷ []) seat ≡ some w → ViewOk maker 0 0 1 [] (label x) (λ _. 0) (λ _. 0) none seat w
    each_first zero w e = subst (λ (z : View E L). ViewOk maker 0 0 1 [] (label x) (λ _. 0) (λ _. 0) none 0 z) (some-injective (opener (label x)) w e)
        (record { label = refl; stage = (λ n. some-ne-none 0 (sym n)); seen = ([], refl, tt); numbered = (λ k h. ⊎_elim (λ (z : 0 ≡ k). (refl, omega arith)) (λ (b : ⊥). absurd b) h); counts = (λ _. refl); limit = omega arith })
    each_first (suc seat) w e = absurd (some-ne-none w (sym e))

  -- a pass more, with the number count, in the seat new
  module _ (served drawn count : ℕ) (list : List E) (lab : L) (owner drawer : ℕ → ℕ) (holder : maybe.Option ℕ) (new : ℕ) where
    owned : (ks : List ℕ) (j : ℕ) → ((k : ℕ) → Has ks k → (owner k ≡ j) × (k < count)) → (k : ℕ) → Has ks k → (put owner count new k ≡ j) × (k < count + 1)
    owned ks j h k b = let x = h k b in let small = x.1 in (put_else owner count new k (λ e. omega arith) ∙ x.0, omega arith)

    stage_counted : (j : ℕ) (stage : Stage E) → StageOk maker served drawn count list owner drawer holder j stage → StageOk maker served drawn (count + 1) list (put owner count new) drawer holder j stage
    stage_counted j Idle h = h
    stage_counted j (Joined p q) h = (h.0, (h.1.0, owned p.numbers j h.1.1), (h.2.0, owned q.numbers j h.2.1))
    stage_counted j (Waits t) h = h
    stage_counted j (Holds t found) h = h

    view_counted : (id j : ℕ) (u : View E L) → owner 0 ≡ id → j ≢ id → ViewOk maker served drawn count list lab owner drawer holder j u → ViewOk maker served drawn (count + 1) list lab (put owner count new) drawer holder j u
    view_counted id j Spent first ne h = h
    view_counted id j (Live v) first ne h = record { label = h.label; stage = stage_counted j v.stage h.stage; seen = h.seen; numbered = owned (numbers v) j h.numbered; counts = (λ b. absurd (ne (sym (h.numbered 0 b).0 ∙ first))); limit = (let x = h.limit in omega arith) }

  below_up : (n : ℕ) (es : List E) → AllBelow maker n es → AllBelow maker (n + 1) es
  below_up n [] h = tt
  below_up n (e ∷ es) h = ((let x = h.0 in omega arith), below_up n es h.1)

  none_below : (n : ℕ) (es : List E) → AllBelow maker n es → NoneBy maker (n ∷ []) es
  none_below n [] h = tt
  none_below n (e ∷ es) h = ((λ b. ⊎_elim (λ (x : n ≡ maker e). let y = h.0 in omega arith) (λ (z : ⊥). z) b), none_below n es h.1)

  past_end : (views : List (View E L)) (list : List E) (lab : L) (holder : maybe.Option ℕ) (home : maybe.Option (maybe.Option (Option V))) → SlotOk turns label views list lab holder home → holder ≢ some (length views)
  past_end views list lab none home h e = some-ne-none (length views) (sym e)
  past_end views list lab (some p) home h e = let x = at_below views p h.1.0 h.1.1 in let y = some-injective p (length views) e in omega arith

  slot_longer : (views : List (View E L)) (w : View E L) (list : List E) (lab : L) (holder : maybe.Option ℕ) (home : maybe.Option (maybe.Option (Option V))) → SlotOk turns label views list lab holder home
      → SlotOk turns label (views ++ w ∷ []) list lab holder home
  slot_longer views w list lab none home h = h
  slot_longer views w list lab (some p) home h = (h.0, (h.1.0, at_longer views (w ∷ []) p h.1.0 h.1.1, h.1.2))

  pub numbers_one : (served drawn : ℕ) (home : maybe.Option (maybe.Option (Option V))) (views : List (View E L)) (id : ℕ) (v : Known E L) → v.stage ≡ Idle → v.number ≡ 0
      → get_elem? views id ≡ some (Live v) → Rule served drawn home views → Rule served drawn home (set views id (counted (Live v)) ++ newcomer (Live v) ∷ [])
  numbers_one served drawn home views id v idle zero_is at k =
      let mine = k.each id (Live v) at in
      let has : Has (numbers v) 0 = inl zero_is in
      let free : k.holder ≢ some id = subst (λ (s : Stage E). StageOk maker served drawn k.count k.list k.owner k.drawer k.holder id s) idle mine.stage in
      let first = mine.numbered 0 has in
      let given : v.given ≡ k.count = mine.counts has in
      let maker_view : View E L = counted (Live v) in
      let new : View E L = newcomer (Live v) in
      let end = length views in
      let slot = slot_stays views k.list k.lab k.holder home id maker_view free k.slot in
      let away : k.holder ≢ some end = past_end views k.list k.lab k.holder home k.slot in
      record {
        list = k.list;
        lab = k.lab;
        count = k.count + 1;
        owner = put k.owner k.count end;
        drawer = k.drawer;
        holder = k.holder;
        order = k.order;
        fits = k.fits;
        slot = slot_longer (set views id maker_view) new k.list k.lab k.holder home slot;
        each = (λ j u e. ⊎_elim
            (each_set (λ j u. ViewOk maker served drawn (k.count + 1) k.list k.lab (put k.owner k.count end) k.drawer k.holder j u) views id maker_view
            (record { label = mine.label; stage = stage_counted served drawn k.count k.list k.lab k.owner k.drawer k.holder end id v.stage mine.stage; seen = mine.seen; numbered = owned served drawn k.count k.list k.lab k.owner k.drawer k.holder end (numbers v) id mine.numbered; counts = (λ _. ap (λ (z : ℕ). z + 1) given); limit = omega (arith, given) })
            (λ j u ne e. view_counted served drawn k.count k.list k.lab k.owner k.drawer k.holder end id j u first.0 ne (k.each j u e)) j u)
            (λ (t : (j ≡ length (set views id maker_view)) × (new ≡ u)). subst (λ (x : ℕ × View E L). ViewOk maker served drawn (k.count + 1) k.list k.lab (put k.owner k.count end) k.drawer k.holder x.0 x.1)
            (λ i. (sym (t.0 ∙ length_set views id maker_view) i, t.1 i))
            (record {
              label = mine.label;
              stage = away;
              seen = (k.list, refl, subst (λ (z : ℕ). NoneBy maker (z ∷ []) k.list) (sym given) (none_below k.count k.list k.below));
              numbered = (λ n b. ⊎_elim (λ (x : v.given ≡ n). (subst (λ (z : ℕ). put k.owner k.count end z ≡ end) (sym given ∙ x) (put_here k.owner k.count end), omega (arith, x, given))) (λ (z : ⊥). absurd z) b);
              counts = (λ b. ⊎_elim (λ (x : v.given ≡ 0). let small = first.1 in absurd (omega (arith, x, given))) (λ (z : ⊥). absurd z) b);
              limit = omega arith;
            }))
            (at_snoc_at (set views id maker_view) new u j e));
        below = below_up k.count k.list k.below;
      }

head_or : {A : Type 0} → A → List A → A
head_or d [] = d
head_or d (x ∷ xs) = x

tail_of : {A : Type 0} → List A → List A
tail_of [] = []
tail_of (x ∷ xs) = xs

cons_inv : {A : Type 0} (x y : A) (xs ys : List A) → x ∷ xs ≡ y ∷ ys → (x ≡ y) × (xs ≡ ys)
unfolding head_or tail_of
cons_inv x y xs ys e = (ap (head_or x) e, ap tail_of e)

-- two beginnings of one list: the shorter begins the longer
module _ {E : Type 0} (maker : E → ℕ) where
  rest_none : (ks : List ℕ) (xs ys : List E) → NoneBy maker ks (xs ++ ys) → NoneBy maker ks xs × NoneBy maker ks ys
  rest_none ks [] ys h = (tt, h)
  rest_none ks (x ∷ xs) ys h = let r = rest_none ks xs ys h.1 in ((h.0, r.0), r.1)

  entries_step : (ks : List ℕ) (k : ℕ) (e : E) (es : List E) → Has ks k → NoneBy maker ks (e ∷ es) → entries_of maker k es ≡ [] → (t : Bool) → (maker e == k) ≡ t → (if t then e ∷ entries_of maker k es else entries_of maker k es) ≡ []
  entries_step ks k e es b h r true is = let same : maker e ≡ k = grind (arith, nat_tests) in absurd (h.0 (subst (Has ks) (sym same) b))
  entries_step ks k e es b h r false is = r

  entries_none : (ks : List ℕ) (k : ℕ) (es : List E) → Has ks k → NoneBy maker ks es → entries_of maker k es ≡ []
  entries_none ks k [] b h = refl
  entries_none ks k (e ∷ es) b h = entries_step ks k e es b h (entries_none ks k es b h.1) (maker e == k) refl

  entries_append_step : (k : ℕ) (e : E) (xs ys : List E) → entries_of maker k (xs ++ ys) ≡ entries_of maker k xs ++ entries_of maker k ys → (t : Bool)
      → (if t then e ∷ entries_of maker k (xs ++ ys) else entries_of maker k (xs ++ ys)) ≡ (if t then e ∷ entries_of maker k xs else entries_of maker k xs) ++ entries_of maker k ys
  entries_append_step k e xs ys r true = ap (λ (l : List E). e ∷ l) r
  entries_append_step k e xs ys r false = r

  pub entries_append : (k : ℕ) (xs ys : List E) → entries_of maker k (xs ++ ys) ≡ entries_of maker k xs ++ entries_of maker k ys
  entries_append k [] ys = refl
  entries_append k (x ∷ xs) ys = entries_append_step k x xs ys (entries_append k xs ys) (maker x == k)

  -- what goes on without a number has the same entries of it
  pub entries_stay : (list seen : List E) (ks : List ℕ) (k : ℕ) → Has ks k → Begins maker list seen ks → entries_of maker k list ≡ entries_of maker k seen
  entries_stay list seen ks k b h = ap (entries_of maker k) h.1 ∙ entries_append k seen h.0 ∙ ap (λ (l : List E). entries_of maker k seen ++ l) (entries_none ks k h.0 b h.2) ∙ append-nil (entries_of maker k seen)

  prefixes : (xs rx ys ry : List E) → length xs ≤ length ys → xs ++ rx ≡ ys ++ ry → (mid : List E) × (ys ≡ xs ++ mid) × (rx ≡ mid ++ ry)
  prefixes [] rx ys ry le e = (ys, refl, e)
  prefixes (x ∷ xs) rx [] ry le e = absurd (omega arith)
  prefixes (x ∷ xs) rx (y ∷ ys) ry le e =
      let t = cons_inv x y (xs ++ rx) (ys ++ ry) e in
      let r = prefixes xs rx ys ry (omega arith) t.1 in
      (r.0, (λ i. sym t.0 i ∷ r.1 i), r.2)

  none_both : (ks ls : List ℕ) (e : E) → (Has ks (maker e) → ⊥) → (Has ls (maker e) → ⊥) → Has (ks ++ ls) (maker e) → ⊥
  none_both [] ls e f g b = g b
  none_both (k ∷ ks) ls e f g b = ⊎_elim (λ (x : k ≡ maker e). f (inl x)) (λ (y : Has (ks ++ ls) (maker e)). none_both ks ls e (λ z. f (inr z)) g y) b

  none_all : (ks ls : List ℕ) (es : List E) → NoneBy maker ks es → NoneBy maker ls es → NoneBy maker (ks ++ ls) es
  none_all ks ls [] h g = tt
  none_all ks ls (e ∷ es) h g = (none_both ks ls e h.0 g.0, none_all ks ls es h.1 g.1)

  -- a shorter beginning begins a longer one, which goes on without its numbers
  pub between : (list a b : List E) (ks ls : List ℕ) → length a ≤ length b → Begins maker list a ks → Begins maker list b ls → Begins maker b a ks
  between list a b ks ls le h g =
      let p = prefixes a h.0 b g.0 le (sym h.1 ∙ g.1) in
      let n = rest_none ks p.0 g.0 (subst (NoneBy maker ks) p.2 h.2) in
      (p.0, p.1, n.0)

  begins_longer_step : (list a b : List E) (ks ls : List ℕ) → Begins maker list a ks → Begins maker list b ls → (t : Bool) → nat_lt (length a) (length b) ≡ t → Begins maker list (if t then b else a) (ks ++ ls)
  begins_longer_step list a b ks ls h g true is =
      let le : length a ≤ length b = grind (arith, nat_tests) in
      let p = prefixes a h.0 b g.0 le (sym h.1 ∙ g.1) in
      let n = rest_none ks p.0 g.0 (subst (NoneBy maker ks) p.2 h.2) in
      (g.0, g.1, none_all ks ls g.0 n.1 g.2)
  begins_longer_step list a b ks ls h g false is =
      let le : length b ≤ length a = grind (arith, nat_tests) in
      let p = prefixes b g.0 a h.0 le (sym g.1 ∙ h.1) in
      let n = rest_none ls p.0 h.0 (subst (NoneBy maker ls) p.2 g.2) in
      (h.0, h.1, none_all ks ls h.0 h.2 n.1)

  pub begins_longer : (list a b : List E) (ks ls : List ℕ) → Begins maker list a ks → Begins maker list b ls → Begins maker list (longer a b) (ks ++ ls)
  begins_longer list a b ks ls h g = begins_longer_step list a b ks ls h g (nat_lt (length a) (length b)) refl

has_split : (ks ls : List ℕ) (n : ℕ) → Has (ks ++ ls) n → Has ks n ⊎ Has ls n
has_split [] ls n b = inr b
has_split (k ∷ ks) ls n b = ⊎_elim (λ (x : k ≡ n). inl (inl x)) (λ (y : Has (ks ++ ls) n). ⊎_elim (λ (z : Has ks n). inl (inr z)) (λ (z : Has ls n). inr z) (has_split ks ls n y)) b

-- what the seat other owned, the seat id owns
abbrev pub passed : (ℕ → ℕ) → ℕ → ℕ → ℕ → ℕ
passed owner other id n = dite (ℕ_discrete (owner n) other) (λ _. id) (λ _. owner n)

passed_yes : (owner : ℕ → ℕ) (other id n : ℕ) → owner n ≡ other → passed owner other id n ≡ id
passed_yes owner other id n e = dite_yes (ℕ_discrete (owner n) other) id (owner n) e

passed_no : (owner : ℕ → ℕ) (other id n : ℕ) → owner n ≢ other → passed owner other id n ≡ owner n
passed_no owner other id n e = dite_no (ℕ_discrete (owner n) other) id (owner n) e

module _ {V E L : Type 0} (turns : V → List E) (maker : E → ℕ) (label : V → L) where
  module _ (served drawn count : ℕ) (list : List E) (lab : L) (owner drawer : ℕ → ℕ) (holder : maybe.Option ℕ) (other id : ℕ) where
    still : (ks : List ℕ) (j : ℕ) → j ≢ other → ((k : ℕ) → Has ks k → (owner k ≡ j) × (k < count)) → (k : ℕ) → Has ks k → (passed owner other id k ≡ j) × (k < count)
    still ks j ne h k b = let x = h k b in (passed_no owner other id k (λ e. ne (sym x.0 ∙ e)) ∙ x.0, x.1)

    now_own : (ks : List ℕ) → ((k : ℕ) → Has ks k → (owner k ≡ other) × (k < count)) → (k : ℕ) → Has ks k → (passed owner other id k ≡ id) × (k < count)
    now_own ks h k b = let x = h k b in (passed_yes owner other id k x.0, x.1)

    stage_passed : (j : ℕ) (stage : Stage E) → j ≢ other → StageOk maker served drawn count list owner drawer holder j stage → StageOk maker served drawn count list (passed owner other id) drawer holder j stage
    stage_passed j Idle ne h = h
    stage_passed j (Joined p q) ne h = (h.0, (h.1.0, still p.numbers j ne h.1.1), (h.2.0, still q.numbers j ne h.2.1))
    stage_passed j (Waits t) ne h = h
    stage_passed j (Holds t found) ne h = h

    view_passed : (j : ℕ) (u : View E L) → j ≢ other → ViewOk maker served drawn count list lab owner drawer holder j u → ViewOk maker served drawn count list lab (passed owner other id) drawer holder j u
    view_passed j Spent ne h = h
    view_passed j (Live v) ne h = record { label = h.label; stage = stage_passed j v.stage ne h.stage; seen = h.seen; numbered = still (numbers v) j ne h.numbered; counts = h.counts; limit = h.limit }

  pub joins : (served drawn : ℕ) (home : maybe.Option (maybe.Option (Option V))) (views : List (View E L)) (id other : ℕ) (v w : Known E L) → v.stage ≡ Idle → w.stage ≡ Idle → other ≢ id
      → get_elem? views id ≡ some (Live v) → get_elem? views other ≡ some (Live w) → Kept turns maker label served drawn home views
      → Kept turns maker label served drawn home (set (set views id (merged (Live v) (Live w))) other Spent)
  joins served drawn home views id other v w idle_v idle_w apart at there k =
      let mine = k.each id (Live v) at in
      let theirs = k.each other (Live w) there in
      let free : k.holder ≢ some id = subst (λ (s : Stage E). StageOk maker served drawn k.count k.list k.owner k.drawer k.holder id s) idle_v mine.stage in
      let free_too : k.holder ≢ some other = subst (λ (s : Stage E). StageOk maker served drawn k.count k.list k.owner k.drawer k.holder other s) idle_w theirs.stage in
      let new : View E L = merged (Live v) (Live w) in
      let own_v = still served drawn k.count k.list k.lab k.owner k.drawer k.holder other id (numbers v) id (λ e. apart (sym e)) mine.numbered in
      let own_w = now_own served drawn k.count k.list k.lab k.owner k.drawer k.holder other id (numbers w) theirs.numbered in
      let low_v = mine.limit in
      let low_w = theirs.limit in
      record {
        list = k.list;
        lab = k.lab;
        count = k.count;
        owner = passed k.owner other id;
        drawer = k.drawer;
        holder = k.holder;
        order = k.order;
        fits = k.fits;
        slot = slot_stays turns maker label (set views id new) k.list k.lab k.holder home other Spent free_too (slot_stays turns maker label views k.list k.lab k.holder home id new free k.slot);
        each = each_set (λ j u. ViewOk maker served drawn k.count k.list k.lab (passed k.owner other id) k.drawer k.holder j u) (set views id new) other Spent free_too
            (λ j u ne e. each_set (λ i x. i ≢ other → ViewOk maker served drawn k.count k.list k.lab (passed k.owner other id) k.drawer k.holder i x) views id new
            (λ _. record {
              label = mine.label;
              stage = (free, (mine.seen, own_v), (theirs.seen, own_w));
              seen = begins_longer maker k.list v.seen w.seen (numbers v) (numbers w) mine.seen theirs.seen;
              numbered = (λ n b. ⊎_elim (λ (x : Has (numbers v) n). own_v n x) (λ (x : Has (numbers w) n). own_w n x) (has_split (numbers v) (numbers w) n b));
              counts = (λ b. ⊎_elim (λ (x : Has (numbers v) 0). let g = mine.counts x in omega arith) (λ (x : Has (numbers w) 0). let g = theirs.counts x in omega arith) (has_split (numbers v) (numbers w) 0 b));
              limit = omega arith;
            })
            (λ i x away f ne'. view_passed served drawn k.count k.list k.lab k.owner k.drawer k.holder other id i x ne' (k.each i x f)) j u e ne);
        below = k.below;
      }

  -- after a join, a look: both old lists begin the seen list
  pub looks : (served drawn : ℕ) (home : maybe.Option (maybe.Option (Option V))) (views : List (View E L)) (id : ℕ) (v : Known E L) (p q : Past E) → v.stage ≡ Joined p q
      → length p.seen ≤ length v.seen → length q.seen ≤ length v.seen → get_elem? views id ≡ some (Live v) → Kept turns maker label served drawn home views
      → Begins maker v.seen p.seen p.numbers × Begins maker v.seen q.seen q.numbers × Kept turns maker label served drawn home (set views id (Live record v { stage = Idle }))
  looks served drawn home views id v p q joined le_p le_q at k =
      let mine = k.each id (Live v) at in
      let stage = subst (λ (s : Stage E). StageOk maker served drawn k.count k.list k.owner k.drawer k.holder id s) joined mine.stage in
      let new : View E L = Live record v { stage = Idle } in (
        between maker k.list p.seen v.seen p.numbers (numbers v) le_p stage.1.0 mine.seen,
        between maker k.list q.seen v.seen q.numbers (numbers v) le_q stage.2.0 mine.seen,
        record {
          list = k.list;
          lab = k.lab;
          count = k.count;
          owner = k.owner;
          drawer = k.drawer;
          holder = k.holder;
          order = k.order;
          fits = k.fits;
          slot = slot_stays turns maker label views k.list k.lab k.holder home id new stage.0 k.slot;
          each = each_set (λ j u. ViewOk maker served drawn k.count k.list k.lab k.owner k.drawer k.holder j u) views id new
              (record { label = mine.label; stage = stage.0; seen = mine.seen; numbered = mine.numbered; counts = mine.counts; limit = mine.limit })
              (λ j u ne e. k.each j u e);
          below = k.below;
        },
      )

pub longer_first : {E : Type 0} (xs ys : List E) → (t : Bool) → nat_lt (length xs) (length ys) ≡ t → (length xs ≤ length (if t then ys else xs)) × (length ys ≤ length (if t then ys else xs))
longer_first xs ys true is = (grind (arith, nat_tests), omega arith)
longer_first xs ys false is = (omega arith, grind (arith, nat_tests))
