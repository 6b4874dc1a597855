use Rattle.std.proofs.Common.{◌≡◌, inl, inr, ◌∙◌, rules}
use Rattle.std.proofs.lemmas.Bool.{cond-false}
use Rattle.std.proofs.lemmas.Map.Text.{btree_map_updates_str}
use Rattle.text_places.specs.Tables.{IsFree}
use Rattle.text_places.specs.Hashes.{hash_of, tag_of}
use Rattle.text_places.proofs.SlotLemmas.{taken_still, told_still}
use Rattle.text_places.proofs.text_index.TextIndex.put.Goals as goal

pub returns-in-Some-clause-others : goal.returns-in-Some-clause-others
returns-in-Some-clause-others c = λ other at less apart found.
    let free : IsFree c.args.self.now.slots.items c.args.self.now.mask (hash_of c.args.text.now) c.args.place c.in-Some.free = search rules in
    let tag : c.tag_of.result ≡ tag_of (hash_of c.args.text.now) = search rules in
    rw tag (elim found [
      | inl told ↦ inl (told_still c.args.self.now.slots.items c.args.self.now.mask c.args.text.now c.args.place c.in-Some.free free other at less told)
      | inr crowded ↦ inr (record {
        full = taken_still c.args.self.now.slots.items c.args.self.now.mask c.args.text.now c.args.place c.in-Some.free free (hash_of other) 8 crowded.full;
        kept = crowded.kept;
      })
    ])

pub returns-in_ok-insert-in-None-clause-others : goal.returns-in_ok-insert-in-None-clause-others
returns-in_ok-insert-in-None-clause-others c = λ other at less apart found.
    elim found [
      | inl told ↦ inl told
      | inr crowded ↦ inr (record {
        full = crowded.full;
        kept = btree_map_updates_str c.args.text.now c.args.self.now.crowded c.insert.new.self _ c.in_ok-insert-in-None.ensures.updates other ∙ (cond-false _ _ _ apart ∙ crowded.kept);
      })
    ]
