use Rattle.std.proofs.Common.{◌≡◌, ◌+◌, ◌<◌, ◌^◌, List, length, vec_len, arith, sym, ap, ◌∙◌}
use Rattle.dart_tokens.specs.declared.token.Token.{Token}
use Rattle.dart_tokens.specs.declared.grouped_token.GroupedToken.{GroupedToken}
use Rattle.dart_tokens.specs.declared.tokens.UnopenedBracket.{UnopenedBracket}
use Rattle.dart_tokens.specs.Read.{all_tokens, grammar_tokens}
use Rattle.grouping.specs.Ahead.{read_ahead, unopened_ahead}
use Rattle.grouping.specs.Faults.{faults_between}
use Rattle.grouping.proofs.FaultLemmas.{whole_faults}
use Rattle.grouping.proofs.WholeLemmas.{all_counted}
use Rattle.grouping.proofs.AddLemmas.{whole_ended, few_read}
use Rattle.grouping.proofs.grouping.Grouping.finish.Goals as goal

pub end_groups-requires-clause-few : goal.end_groups-requires-clause-few
end_groups-requires-clause-few c =
    let read = c.self.inside.read in
    let few : length read.items < 2 ^ 32 = few_read c.args.self read.items c.self.inside.unopened.items (2 ^ 32) c.self.view_is c.requires in omega (arith, few, read.ok.0)

pub faults-requires : goal.faults-requires
faults-requires c =
    let ended = whole_ended c.args.self c.self.inside.read.items c.shrink_to_fit.new.self.items c.self.inside.unopened.items c.self.inside.around (vec_len c.self.inside.read) c.self.view_is c.self.invariant c.self.inside.read.ok.0 (c.shrink_to_fit.ensures.items ∙ c.end_groups.ensures) in
    let read = c.shrink_to_fit.new.self in
    let unopened = c.self.inside.unopened in
    let count : length (all_tokens read.items unopened.items) ≡ length read.items + length unopened.items = all_counted read.items unopened.items in
    let all : length (all_tokens read.items unopened.items) ≡ length c.args.self = ap (λ (ts : List Token). length ts) ended.all in
    let first : length c.deref.result.now ≡ length read.items = ap (λ (xs : List GroupedToken). length xs) c.deref.ensures.value in
    let second : length c.deref-2.result.now ≡ length unopened.items = ap (λ (xs : List UnopenedBracket). length xs) c.deref-2.ensures.value in
    omega (arith, count, all, first, second, c.requires)

pub from_parts-requires : goal.from_parts-requires
from_parts-requires c =
    let ended = whole_ended c.args.self c.self.inside.read.items c.shrink_to_fit.new.self.items c.self.inside.unopened.items c.self.inside.around (vec_len c.self.inside.read) c.self.view_is c.self.invariant c.self.inside.read.ok.0 (c.shrink_to_fit.ensures.items ∙ c.end_groups.ensures) in
    ended.grammar ∙ ap (λ (ts : List Token). grammar_tokens ts) (sym ended.all)

pub returns-clause-tokens : goal.returns-clause-tokens
returns-clause-tokens c =
    let ended = whole_ended c.args.self c.self.inside.read.items c.shrink_to_fit.new.self.items c.self.inside.unopened.items c.self.inside.around (vec_len c.self.inside.read) c.self.view_is c.self.invariant c.self.inside.read.ok.0 (c.shrink_to_fit.ensures.items ∙ c.end_groups.ensures) in
    c.from_parts.ensures ∙ ended.all

pub returns-clause-faults : goal.returns-clause-faults
returns-clause-faults c =
    let ended = whole_ended c.args.self c.self.inside.read.items c.shrink_to_fit.new.self.items c.self.inside.unopened.items c.self.inside.around (vec_len c.self.inside.read) c.self.view_is c.self.invariant c.self.inside.read.ok.0 (c.shrink_to_fit.ensures.items ∙ c.end_groups.ensures) in
    let tokens = c.args.self in
    let read : c.deref.result.now ≡ read_ahead _ tokens = c.deref.ensures.value ∙ ended.read_is in
    let unopened : c.deref-2.result.now ≡ unopened_ahead 0 _ tokens = c.deref-2.ensures.value ∙ ended.unopened_is in
    c.from_vec.ensures ∙ c.in_ok-faults.ensures ∙ ap (λ (xs : List GroupedToken). faults_between 0 0 xs c.deref-2.result.now) read
    ∙ ap (λ (bs : List UnopenedBracket). faults_between 0 0 (read_ahead _ tokens) bs) unopened ∙ whole_faults tokens
