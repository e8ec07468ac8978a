use Rattle.std.proofs.Common.{sym, ap, subst, subst₂, List, ℕ, Option, Contains, map, set, unwrap_or, option_map, rules}
use Rattle.outside.specs.Causes.{HasCause}
use Rattle.outside.specs.FileShelf.{NameState}
use Rattle.outside.proofs.Named.{LookedUp, looked_up, Replaces, replaces}
use Rattle.outside.proofs.file_shelf.FileShelfShelf.read.Goals as goal

abbrev name_of : NameState → List ℕ
name_of f = f.name

abbrev faults_in : Option NameState → ℕ
faults_in file = unwrap_or (option_map (λ f. f.faults) file) 0

pub unwrap-index-requires : goal.unwrap-index-requires
unwrap-index-requires g c =
    let look : LookedUp name_of c.deref.result.now c.self.inside.files.items c.args.name.now c.place_of.result = record { same = c.deref.ensures.value; is = c.place_of.ensures } in
    (looked_up name_of _ _ _ _ look).1 (subst (λ (files : List NameState). Contains (map name_of files) c.args.name.now) (sym c.self.view_is) c.requires)

pub returns : goal.returns
returns g c =
    let name = c.args.name.now in
    let old : List NameState = c.args.self.now in
    let file : NameState = c.index_mut.result.now in
    let next : NameState = c.read.new.self in
    let look : LookedUp name_of c.deref.result.now c.self.inside.files.items name c.place_of.result = record { same = c.deref.ensures.value; is = c.place_of.ensures } in
    let new : List NameState = set c.self.inside.files.items c.unwrap-index.result next in
    let here : Replaces name_of c.self.inside.files.items new name file next =
    replaces name_of _ _ _ _ _ _ _ look c.unwrap-index.ensures c.index_mut.ensures.value c.read.ensures.name in
    let step : Replaces name_of old new name file next = subst (λ (files : List NameState). Replaces name_of files new name file next) c.self.view_is here in
    record {
      bound = c.read.ensures.bound;
      given = search rules;
      end = search rules;
      names = step.names;
      bytes = search rules;
      others = λ other differs. ap faults_in (step.beside other differs);
      cause = subst₂ (λ (a b : ℕ). HasCause a b c.read.result) (sym (ap faults_in step.found)) (sym (ap faults_in step.after)) c.read.ensures.cause;
    }
