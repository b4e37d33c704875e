mod NumberLemmas
mod Exits
mod PatternExits
mod SwitchExits
