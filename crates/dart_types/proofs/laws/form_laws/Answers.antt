use Rattle.dart_types.proofs.HeadTests.{object_is, is_object_of, function_class_is, is_function_class_of, top_is, is_top_of}
use Rattle.dart_types.proofs.laws.form_laws.Goals as goal

pub returns : goal.returns
returns c = record {
  object = λ t. (object_is t, is_object_of t);
  function = λ t. (function_class_is t, is_function_class_of t);
  top = λ t. (top_is t, is_top_of t);
}
