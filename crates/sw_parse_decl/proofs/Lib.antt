mod ParseLemmas
mod Exits
