mod Appended
mod CodeOn
mod Alike
mod MethodsOn
mod Joined
