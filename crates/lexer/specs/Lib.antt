-- The definitions that the contracts of `lexer` cite, from document 01's section Lexer.
pub mod Token
pub mod Scan
pub mod Space
pub mod Word
pub mod Num
pub mod Sym
pub mod Kind
pub mod Read
pub mod Escape
pub mod Lex
pub mod Listing
pub mod Lexing
pub mod Meets
pub mod Due
pub mod Found
pub mod Input
pub mod Examples
