use Rattle.std.proofs.Common.{◌≡◌, ◌∙◌, sym, ap, subst, List, [], ◌∷◌, length, ◌-◌, Bool, ℕ, Some, Option, Contains, map, set, unwrap_or, option_map, option_and_then, is_none, ◌||◌, IfOk, IfSome, is_err, take, drop, ◌++◌, refl, rules, ap₂, subst₂}
use Rattle.outside.specs.Causes.{HasCause}
use Rattle.outside.specs.Content.{GivesFrom, GivesNoneOnlyAtEnd}
use Rattle.outside.specs.MemFile.{FileState, after_call}
use Rattle.outside.specs.MemShelf.{ShelfState, names_of, bytes_of, calls_of, listed_calls, is_listed, count_given}
use Rattle.std.specs.List.{list_any}
use Rattle.outside.proofs.Named.{LookedUp, looked_up, Replaces, replaces, shared}
use Rattle.outside.proofs.mem_shelf.MemShelfShelf.read.Goals as goal

list_any-map : {X Y : Type 0} (p : Y → Bool) (h : X → Y) (xs : List X) → list_any p (map h xs) ≡ list_any (λ x. p (h x)) xs
list_any-map p h [] = refl
list_any-map p h (x ∷ xs) = rw (list_any-map p h xs) refl

abbrev name_of : FileState → List ℕ
name_of f = f.name

abbrev bytes_in : Option FileState → Option (List ℕ)
bytes_in file = option_and_then (λ f. f.bytes) file

abbrev bytes_in_file : FileState → Option (List ℕ)
bytes_in_file f = f.bytes

abbrev calls_in : Option FileState → ℕ
calls_in file = unwrap_or (option_map (λ f. f.calls) file) 0

abbrev faults_in : Option FileState → ℕ
faults_in file = unwrap_or (option_map (λ f. f.faults) file) 0

pub unwrap-index-requires : goal.unwrap-index-requires
unwrap-index-requires c =
    let look : LookedUp name_of c.deref.result.now c.self.inside.files.items c.args.name.now c.place_of.result = record { same = c.deref.ensures.value; is = c.place_of.ensures } in
    (looked_up name_of _ _ _ _ look).1 (subst (λ (s : ShelfState). Contains (names_of s) c.args.name.now) (sym c.self.view_is) c.requires)

pub returns : goal.returns
returns c =
    let name = c.args.name.now in
    let old = c.args.self.now in
    let file : FileState = c.index_mut-file.result.now in
    let next : FileState = c.read.new.self in
    let look : LookedUp name_of c.deref.result.now c.self.inside.files.items name c.place_of.result = record { same = c.deref.ensures.value; is = c.place_of.ensures } in
    let new : List FileState = set c.self.inside.files.items c.unwrap-index.result next in
    let here : Replaces name_of c.self.inside.files.items new name file next =
    replaces name_of _ _ _ _ _ _ _ look c.unwrap-index.ensures c.index_mut-file.ensures.value (ap name_of c.read.ensures.counts) in
    let step : Replaces name_of old.files new name file next = subst (λ (xs : List FileState). Replaces name_of xs new name file next) (ap (λ (s : ShelfState). s.files) c.self.view_is) here in
    let bytes : bytes_of old name ≡ file.bytes = ap bytes_in step.found in
    let number : c.calls.result ≡ calls_of old name = c.calls.ensures ∙ sym (ap calls_in step.found) in
    let calls : listed_calls c.deref-2.result.now ≡ old.failing = ap listed_calls c.deref-2.ensures.value ∙ ap (λ (s : ShelfState). s.failing) c.self.view_is in
    let listed : c.is_listed-is_listed.result ≡ is_listed old.failing name (calls_of old name) =
    c.is_listed-is_listed.ensures ∙ sym (list_any-map _ _ c.deref-2.result.now) ∙ ap₂ (λ (failing : List (List ℕ × ℕ)) (k : ℕ). is_listed failing name k) calls number in
    record {
      bound = c.read.ensures.bound;
      given = subst (λ (told : Option (List ℕ)). IfOk c.read.result (λ n. GivesFrom told c.args.at n c.read.new.buf)) (sym bytes) c.read.ensures.from;
      end = subst (λ (told : Option (List ℕ)). IfOk c.read.result (λ n. GivesNoneOnlyAtEnd told c.args.at n c.read.new.buf)) (sym bytes) c.read.ensures.end;
      names = step.names;
      bytes = shared name_of bytes_in old.files new name file next step (ap bytes_in_file c.read.ensures.counts);
      others = λ other differs. ap faults_in (step.beside other differs);
      cause = subst₂ (λ (a b : ℕ). HasCause a b c.read.result) (sym (ap faults_in step.found)) (sym (ap faults_in step.after)) c.read.ensures.cause;
      fault = c.read.ensures.fault ∙ ap₂ (λ (told : Option (List ℕ)) (b : Bool). is_none told || b) (sym bytes) listed;
      count = subst₂ (λ (told : Option (List ℕ)) (most : ℕ). IfOk c.read.result (λ n. IfSome told (λ xs. n ≡ count_given most (length c.args.buf.now) (length xs - c.args.at)))) (sym bytes) (ap (λ (s : ShelfState). s.most) c.self.view_is) c.read.ensures.count;
      filled = subst (λ (told : Option (List ℕ)). IfOk c.read.result (λ n. IfSome told (λ xs. c.read.new.buf ≡ take n (drop c.args.at xs) ++ drop n c.args.buf.now))) (sym bytes) c.read.ensures.filled;
      untouched = c.read.ensures.untouched;
      counts = step.after ∙ ap (λ (f : FileState). Some f) c.read.ensures.counts ∙ sym (ap (λ (o : Option FileState). option_map (after_call (is_err c.read.result)) o) step.found);
      other_files = step.beside;
      rules = search rules;
    }
