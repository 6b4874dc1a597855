-- Parts as the program holds them.
use Rattle.command_words.specs.Words.{Part, Names, Gives, Ends, Wrong}
use Rattle.command_words.specs.declared.arguments.Part as lent_part
use Rattle.command_words.specs.declared.arguments.Part.TheVariants as lent_part_variant

-- the part whose value a word lends
abbrev pub part_view : lent_part.Part → Part
part_view (lent_part_variant.Names argument) = Names argument
part_view (lent_part_variant.Gives argument value) = Gives argument value.now
part_view lent_part_variant.Ends = Ends
part_view lent_part_variant.Wrong = Wrong
