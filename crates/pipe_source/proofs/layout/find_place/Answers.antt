use Rattle.std.proofs.Common.{◌≡◌, ◌+◌, List, ℕ, Some, None, sym, refl, rules, drop}
use Rattle.csv.specs.Records.{fields_of}
use Rattle.pipe_source.specs.Layout.{first_place}
use Rattle.pipe_source.proofs.LayoutFacts.{place-none, place-once, place-twice}
use Rattle.pipe_source.proofs.layout.find_place.Goals as goal

pub returns-in_default : goal.returns-in_default
returns-in_default c =
    let ts : List (List ℕ) = fields_of c.args.names.now in
    let none : first_place c.args.name.now 0 ts ≡ None = search rules in
    sym (place-none c.args.name.now 0 ts none)

pub returns-in-Some-first_place : goal.returns-in-Some-first_place
returns-in-Some-first_place c =
    let ts : List (List ℕ) = fields_of c.args.names.now in
    let p : ℕ = c.in-Some.place in
    let first : first_place c.args.name.now 0 ts ≡ Some p = search rules in
    let more : first_place c.args.name.now (p + 1) (drop (p + 1) ts) ≡ Some c.in-Some-first_place.field-0 = search rules in
    sym (place-twice c.args.name.now ts 0 p c.in-Some-first_place.field-0 ts refl first more)

pub returns-in-None : goal.returns-in-None
returns-in-None c =
    let ts : List (List ℕ) = fields_of c.args.names.now in
    let p : ℕ = c.in-Some.place in
    let first : first_place c.args.name.now 0 ts ≡ Some p = search rules in
    let more : first_place c.args.name.now (p + 1) (drop (p + 1) ts) ≡ None = search rules in
    sym (place-once c.args.name.now ts 0 p ts refl first more)
