-- Which function types have a bound that is a function type.
use Rattle.std.specs.Prelude.{Bool, true, false, ◌&&◌, ◌||◌, not, nat_eq, bytes_eq, if◌then◌else◌}
use Rattle.dart_types.specs.Ty.{Types, Named, no_more, more, no_named, more_named, count, types_of}
use Rattle.dart_types.specs.Named.{has_name, named_of}
use Rattle.dart_types.specs.declared.types.FunctionType.{FunctionType}

-- each name that the first list requires is in the second
abbrev pub required_are_in : Named → Named → Bool
required_are_in no_named ns = true
required_are_in (more_named n r t rest) ns = (if r then has_name ns n else true) && required_are_in rest ns

-- both lists have the same names, in the same order
abbrev pub same_names : Named → Named → Bool
same_names no_named no_named = true
same_names no_named (more_named m q u ms) = false
same_names (more_named n r t ns) no_named = false
same_names (more_named n r t ns) (more_named m q u ms) = bytes_eq n m && same_names ns ms

-- there is a positional parameter
abbrev pub some_type : Types → Bool
some_type no_more = false
some_type (more t ts) = true

-- there is a named parameter
abbrev pub some_named : Named → Bool
some_named no_named = false
some_named (more_named n r t rest) = true

-- Two function types have an upper bound that is one: they require as many positional parameters, each name that one requires is in the other, and it isn't so that one has optional positional parameters and the other named ones.
abbrev pub have_upper : (r o : Types) (n : Named) (r' o' : Types) (n' : Named) → Bool
have_upper r o n r' o' n' =
    nat_eq (count r) (count r') && (required_are_in n n' && required_are_in n' n) && not ((some_type o && some_named n') || (some_type o' && some_named n))

-- Two function types have a lower bound that is one: they have as many required and as many optional positional parameters, and the same names, which stand in one order in all function types.
abbrev pub have_lower : (r o : Types) (n : Named) (r' o' : Types) (n' : Named) → Bool
have_lower r o n r' o' n' = nat_eq (count r) (count r') && (nat_eq (count o) (count o') && same_names n n')

-- so it is with two function types as the code keeps them
abbrev pub have_upper_function : FunctionType → FunctionType → Bool
have_upper_function f g = have_upper (types_of f.required) (types_of f.optional) (named_of f.named) (types_of g.required) (types_of g.optional) (named_of g.named)

abbrev pub have_lower_function : FunctionType → FunctionType → Bool
have_lower_function f g = have_lower (types_of f.required) (types_of f.optional) (named_of f.named) (types_of g.required) (types_of g.optional) (named_of g.named)
