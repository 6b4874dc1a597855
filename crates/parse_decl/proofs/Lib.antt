pub mod PlainDeclarations
