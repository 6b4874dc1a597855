use Rattle.std.proofs.Common.{◌≡◌, inl, inr, ◌<◌, false, length, get_or, sym, ◌∙◌, arith}
use Rattle.std.proofs.lemmas.Bool.{both_ways}
use Rattle.std.proofs.lemmas.List.{get_or_read}
use Rattle.std.proofs.lemmas.Option.{slice_get_within}
use Rattle.namespaces.proofs.Searching.{finds_nothing, finds_one, one_less}
use Rattle.namespaces.proofs.search.find.Goals as goal

pub returns-then-index : goal.returns-then-index
returns-then-index c =
    let link = c.args.link.now in
    let old = c.args.search.now in
    let below : link.from < length c.args.libraries.now = slice_get_within c.args.libraries.now link.from c.requires.link.exporter c.requires.link.stands in
    let within : link.from < length old.marks.items = omega (arith, below, c.requires.size) in
    let read : c.index.result.now ≡ get_or old.marks.items link.from false = get_or_read old.marks.items link.from c.index.result.now within c.index.ensures false in
    finds_nothing c.args.libraries.now c.args.name.now link old c.requires.left (inl (sym read ∙ c.if-index.true))

pub returns-then-not-passes : goal.returns-then-not-passes
returns-then-not-passes c =
    finds_nothing c.args.libraries.now c.args.name.now c.args.link.now c.args.search.now c.requires.left (inr (λ p. both_ways c.passes.result c.if-not-passes.true (c.passes.ensures.if_passes p)))

pub note-requires-clause-within : goal.note-requires-clause-within
note-requires-clause-within c =
    let link = c.args.link.now in
    let below : link.from < length c.args.libraries.now = slice_get_within c.args.libraries.now link.from c.requires.link.exporter c.requires.link.stands in
    omega (arith, below, c.requires.size)

pub note-requires-clause-left : goal.note-requires-clause-left
note-requires-clause-left c =
    let link = c.args.link.now in
    let old = c.args.search.now in
    let below : link.from < length c.args.libraries.now = slice_get_within c.args.libraries.now link.from c.requires.link.exporter c.requires.link.stands in
    let within : link.from < length old.marks.items = omega (arith, below, c.requires.size) in
    let read : c.index.result.now ≡ get_or old.marks.items link.from false = get_or_read old.marks.items link.from c.index.result.now within c.index.ensures false in
    omega (arith, one_less old.marks.items link.from within (sym read ∙ c.if-index.false), c.requires.left)

pub returns : goal.returns
returns c =
    let link = c.args.link.now in
    let old = c.args.search.now in
    let below : link.from < length c.args.libraries.now = slice_get_within c.args.libraries.now link.from c.requires.link.exporter c.requires.link.stands in
    let within : link.from < length old.marks.items = omega (arith, below, c.requires.size) in
    let read : c.index.result.now ≡ get_or old.marks.items link.from false = get_or_read old.marks.items link.from c.index.result.now within c.index.ensures false in
    finds_one c.args.libraries.now c.args.name.now link old c.requires.left c.note.new.search within (sym read ∙ c.if-index.false) (c.passes.ensures.if_true c.if-not-passes.false) c.in_ok-note.ensures
