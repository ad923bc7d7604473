mod Seated
mod Unused
mod Retold
