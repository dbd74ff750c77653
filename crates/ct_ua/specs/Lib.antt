pub mod CodeSets
pub mod Attentions
