use Rattle.std.proofs.Common.{◌≡◌, ◌<◌, ◌≤◌, ◌+◌, Some, length, map, slice_get, sym, arith, rules}
use Rattle.std.proofs.lemmas.List.{length-map}
use Rattle.text_places.specs.Hashes.{first_of, hash_of}
use Rattle.text_places.proofs.TableLemmas.{nowhere_at_free, position_at_end}
use Rattle.text_places.proofs.TextLemmas.{position_where_alone, position_where_none}
use Rattle.text_places.proofs.text_index.TextIndex.place_of.Goals as goal

pub returns-then-place-texts : goal.returns-then-place-texts
returns-then-place-texts c =
    let near : c.loop-step.step < 8 = search rules in
    let is : slice_get c.args.self.now.slots.items (first_of (hash_of c.args.text.now) c.args.self.now.mask + c.loop-step.step) ≡ Some c.in-Some.slot = search rules in
    let past : length c.args.texts.now ≤ c.in-Some.slot.place = search rules in
    let free : length (map (λ t. t.now) c.args.texts.now) ≤ c.in-Some.slot.place = omega (arith, past, length-map c.args.texts.now (λ t. t.now)) in
    sym (position_where_none c.args.text.now _ (nowhere_at_free _ c.args.self.now c.requires c.args.text.now c.loop-step.step c.in-Some.slot near c.loop-step.invariant is free))

pub returns-then-is_at : goal.returns-then-is_at
returns-then-is_at c =
    let here : slice_get (map (λ t. t.now) c.args.texts.now) c.in-Some.slot.place ≡ Some c.args.text.now = search rules in
    sym (position_where_alone c.args.text.now _ c.in-Some.slot.place here (λ other is. c.requires.once other c.in-Some.slot.place c.args.text.now is here))

pub returns : goal.returns
returns c =
    let past : 8 ≤ c.loop-step.step = search rules in
    position_at_end _ c.args.self.now c.requires c.args.text.now (λ place step less. c.loop-step.invariant place step (omega (arith, less, past))) c.place_in_crowd.result c.place_in_crowd.ensures.some c.place_in_crowd.ensures.none
