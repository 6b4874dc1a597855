use Rattle.core_check.proofs.well_formed.is_well_formed.Goals as goal

-- each part was tested
pub returns : goal.returns
returns c = (
  λ yes. record {
    main_in = c.has_main.ensures.0 c.if-not-has_main.false;
    numbered = c.is_numbered.ensures.0 c.if-not-is_numbered.false;
    functions_in = c.functions_are_in.ensures.0 c.if-not-functions_are_in.false;
    points_in = c.in_ok-inside.ensures.0 yes;
    int_apart = (c.are_apart.ensures.0 c.if-not-are_apart.false).0;
    bool_apart = (c.are_apart.ensures.0 c.if-not-are_apart.false).1;
  },
  λ well. c.in_ok-inside.ensures.1 well.points_in,
)
