mod Keeping
mod Looking
mod Runs
