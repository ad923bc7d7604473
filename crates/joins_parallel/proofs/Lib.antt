mod Asking
mod Cuts
mod Each
mod Replacing
mod Parts
mod InPlace
