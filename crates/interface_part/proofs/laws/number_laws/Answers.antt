use Rattle.interface_part.specs.Hidden.{hidden_in}
use Rattle.interface_part.proofs.NumberLaws.{lexeme_of_number, number_at_found, number_to_found, numbers_found, numbers_of_range_found, range_found, same_numbers, span_at_found, token_of_lexeme}
use Rattle.interface_part.proofs.laws.number_laws.Goals as goal

pub returns : goal.returns
returns c = record {
  part = λ u t number e. lexeme_of_number u.words (hidden_in u.tree) u.tokens t number e;
  token = λ u number kind letters adjoins e. token_of_lexeme u.words (hidden_in u.tree) u.tokens number kind letters adjoins e;
  found = λ u t number apart e. numbers_found (hidden_in u.tree) u.tokens apart t number e;
  at = λ u offset number e. number_at_found (hidden_in u.tree) u.tokens offset number e;
  to = λ u offset number e. number_to_found (hidden_in u.tree) u.tokens offset number e;
  place = λ u number span e. span_at_found (hidden_in u.tree) u.tokens number span e;
  range = λ u span numbers apart. (range_found (hidden_in u.tree) u.tokens apart span numbers, numbers_of_range_found (hidden_in u.tree) u.tokens apart numbers span);
  same = λ u v e. same_numbers u.words (hidden_in u.tree) u.tokens v.words (hidden_in v.tree) v.tokens e;
}
